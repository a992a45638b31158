-- Reading at and past the end of an octet string, and copying what fits.
use mathlib.Core.Path.{◌≡◌, refl, sym, ◌∙◌}
use mathlib.Core.List.{List, [], ◌∷◌, ◌++◌, append-nil}
use Prim.Native.Nat.{ℕ, ◌+◌, ◌-◌, ◌/◌, ◌%◌, ◌≤◌, ◌<◌}
use native.Mathlib.Omega.{arith}
use native.Mathlib.Nat.{add-zero}
use native.Mathlib.Numerals.{add-one}
use borrow.Author.Rules.{rules}
use lib.Seq.{paste, paste-zero, paste-suc, take-length, take_all, take-add, length-take-le, get_or-set_same, get_or-set_other}
use lib.ListN.{length, length-set, get_or, set, take, drop, replicate, length-append, length-take, length-drop, length-replicate}
use lib.ListN.{take-append-drop, drop_of_length-le, get_or-eq_default}
use Rattle.rules.proofs.{TestLaws.tests, TestLaws.by_order, OctetLaws.put_none, OctetLaws.put_put, OctetLaws.put_tail, OctetLaws.put_front, OctetLaws.length_put}
use Rattle.rules.specs.Octets as O
use Rattle.rules.specs.Octets.{octet, be16, be32, be48, octets16, octets48, put}
use Rattle.octets.specs.Copy.{Wrote, fitting}
use Rattle.octets.specs.Words.{be64}

-- what is read past the end is 0
pub octet_past : (s : List ℕ) (n : ℕ) → length s ≤ n → 0 ≡ octet s n
octet_past s n h = rw (get_or-eq_default s 0 h)

pub be16_past : (s : List ℕ) (n : ℕ) → length s ≤ n → 0 ≡ be16 s n
be16_past s n h = omega (arith, octet_past s n h, octet_past s (n + 1) (omega arith))

pub be32_past : (s : List ℕ) (n : ℕ) → length s ≤ n → 0 ≡ be32 s n
be32_past s n h = omega (arith, be16_past s n h, be16_past s (n + 2) (omega arith))

pub be48_past : (s : List ℕ) (n : ℕ) → length s ≤ n → 0 ≡ be48 s n
be48_past s n h = omega (arith, be16_past s n h, be32_past s (n + 2) (omega arith))

pub be64_past : (s : List ℕ) (n : ℕ) → length s ≤ n → 0 ≡ be64 s n
be64_past s n h = omega (arith, be32_past s n h, be32_past s (n + 4) (omega arith))

-- octets read one by one
pub read_on : (s octets : List ℕ) (n i o : ℕ) → length octets ≡ n → ((k : ℕ) → k < i → get_or octets k 0 ≡ octet s k) → i < n → o ≡ octet s i
    → (length (set octets i o) ≡ n) × ((k : ℕ) → k < i + 1 → get_or (set octets i o) k 0 ≡ octet s k)
read_on s octets n i o long before h e = (
  rw length-set long,
  λ k l.
      by_order k i
      (λ m. get_or-set_other octets i k o 0 (omega arith) ∙ before k m)
      (λ m.
      let here : k ≡ i = omega arith in
      rw here (get_or-set_same octets i o 0 (omega arith) ∙ e)),
)

-- the six octets of a number
pub six_octets : (n a b c d e f : ℕ) → a ≡ n / 1099511627776 % 256 → b ≡ n / 4294967296 % 256 → c ≡ n / 16777216 % 256 → d ≡ n / 65536 % 256
    → e ≡ n / 256 % 256 → f ≡ n % 256 → (a ∷ b ∷ c ∷ d ∷ e ∷ f ∷ []) ≡ octets48 n
six_octets n a b c d e f ea eb ec ed ee ef =
    let first : a ≡ n / 4294967296 / 256 % 256 = omega arith in
    let third : c ≡ n / 65536 / 256 % 256 = omega arith in
    rw (first, eb, third, ed, ee, ef)

-- nothing written
pub wrote_none : (out : List ℕ) (at : ℕ) → Wrote [] at at out out
wrote_none out at = record { ends = sym (add-zero at); after = sym (put_none out at) }

module _ (out : List ℕ) (at : ℕ) (s : List ℕ) where
  pub fits_all : at + length s ≤ length out → fitting out at s ≡ s
  unfolding fitting
  fits_all h = simp tests

  pub copy_none : length out < at + length s → Wrote (fitting out at s) at at out out
  unfolding fitting
  copy_none h = simp tests (wrote_none out at)

  -- as the code tests it
  pub copy_outside : length out < at → Wrote (fitting out at s) at at out out
  copy_outside h = copy_none (omega arith)

  module _ (from : at ≤ length out) where
    pub copy_over : length out - at < length s → Wrote (fitting out at s) at at out out
    copy_over h = copy_none (omega arith)

    pub copy_within : (out' : List ℕ) → out' ≡ put out at s → length s ≤ length out - at → Wrote (fitting out at s) at (at + length s) out out'
    copy_within out' e h = rw (fits_all (omega arith)) (record { ends = refl; after = e })

pub ruleset copy_laws = (rules, copy_outside, copy_over, copy_within)

-- a copy that fits is a write, and two writes side by side are one
pub copied : {out out' s t : List ℕ} {at end : ℕ} → Wrote (fitting out at s) at end out out' → s ≡ t → at + length t ≤ length out → Wrote t at end out out'
copied {out} {t = t} {at = at} w e h = rw (e, fits_all out at t h) at w

pub wrote_long : {out out' s : List ℕ} {at end : ℕ} → Wrote s at end out out' → end ≤ length out → length out' ≡ length out
wrote_long {out} {s = s} {at = at} w h = rw w.after (length_put out at s (omega arith))

pub joined : {out mid out' s t : List ℕ} {at here end : ℕ} → Wrote s at here out mid → Wrote t here end mid out' → Wrote (s ++ t) at end out out'
joined {out} {s = s} {t = t} {at = at} {here = here} a b =
    record { ends = rw length-append (omega arith); after = b.after ∙ rw a.after (put_put out at s here t a.ends) }

pub copied_on : {out mid out' s t u : List ℕ} {at here end : ℕ} → Wrote s at here out mid → Wrote (fitting mid here u) here end mid out' → u ≡ t
    → at + (length s + length t) ≤ length out → Wrote (s ++ t) at end out out'
copied_on a w e h = joined a (copied w e (omega (arith, wrote_long a (omega arith))))

-- the loop of `fill_octets`: `out` has the first i octets of `s` in it from `at` on
module _ (d : List ℕ) (at : ℕ) (s : List ℕ) (i : ℕ) (out : List ℕ) (is : out ≡ paste d at s i) where
  pub fill_on : i < length s → at + length s ≤ length d → set out (at + i) (get_or s i 0) ≡ paste d at s (i + 1)
  fill_on h room = rw (is, add-one, paste-suc d at s i 0 (omega arith) (omega arith))

  pub fill_end : i ≤ length s → length s ≤ i → out ≡ put d at s
  unfolding O.put
  fill_end h k = let e : i ≡ length s = omega arith in is ∙ rw (e, take-length)

pub ruleset fill_laws = (rules, paste-zero, fill_on, fill_end)

-- a block, by way of an array of our own
pub block_all : (k : ℕ) (s b : List ℕ) → length s ≡ k → b ≡ put (replicate k 0) 0 s → b ≡ s
block_all k s b n is =
    let zeros = replicate {A = ℕ} k 0 in
    let none : drop (length s) zeros ≡ [] = drop_of_length-le zeros {i = length s} (omega (arith, length-replicate {A = ℕ} k 0)) in
    is ∙ rw (put_front zeros s, none, append-nil)

pub block_through : (d : List ℕ) (at : ℕ) (s b : List ℕ) → length s ≡ 16 → b ≡ put (replicate 16 0) 0 s → {d' : List ℕ} → d' ≡ put d at b → d' ≡ put d at s
block_through d at s b n is e = rw (block_all 16 s b n is) at e

pub ruleset block_laws = (rules, block_through)

-- a loop that copies parts of one size: `out` has the first i octets of `s` in it from `at` on
module _ (d : List ℕ) (at : ℕ) (s : List ℕ) where
  pub parts_begin : d ≡ put d at (take 0 s)
  parts_begin = sym (put_none d at)

  module _ (i : ℕ) (out : List ℕ) (is : out ≡ put d at (take i s)) (out' : List ℕ) where
    pub parts_on : (n : ℕ) → i ≤ length s → out' ≡ put out (at + i) (take (i + n - i) (drop i s)) → out' ≡ put d at (take (i + n) s)
    parts_on n h e =
        let size : i + n - i ≡ n = omega arith in
        rw (e, is, size, take-add i n s) (put_put d at (take i s) (at + i) (take n (drop i s)) (rw (length-take-le i s h)))

    -- the last one is written over the end of what is there
    pub parts_end : (last : ℕ) → out' ≡ put out (at + last) (take (length s - last) (drop last s)) → last ≤ i → i ≤ length s
        → at + length s ≤ length d → out' ≡ put d at s
    parts_end last e h k room =
        let long = length-take-le last s (omega arith) in
        let more : last + (i - last) ≡ i = omega arith in
        let rest : take (length s - last) (drop last s) ≡ drop last s = take_all (length s - last) (drop last s) (rw length-drop (omega arith)) in
        let split : take i s ≡ take last s ++ take (i - last) (drop last s) = rw more at (take-add last (i - last) s) in
        let over = put_tail d at (take last s) (take (i - last) (drop last s)) (drop last s) (omega (arith, long))
        (omega (arith, length-take (i - last) (drop last s))) in
        rw (e, is, rest, split) (rw (long, take-append-drop) at over)

pub ruleset parts = (parts_begin, parts_on)

-- its invariant where the last part, of n octets, may lie over the end of those before
abbrev pub Parts : ℕ → List ℕ → ℕ → List ℕ → ℕ → List ℕ → ℕ → Type 0
Parts n d at s last out i = (i ≤ length s) × (last + n ≡ length s) × (out ≡ put d at (take i s)) × (length out ≡ length d)

pub ruleset blocks_laws = (rules, parts, parts_end)

-- four blocks, one behind the other; `on` is a premise of its own, so that `search` finds the third by its place and has fewer buffers to compare
module _ (s : List ℕ) (size : length s ≡ 64) where
  pub first_block : length (take 16 s) ≡ 16
  first_block = length-take-le 16 s (omega arith)

  pub four_blocks : (d : List ℕ) (at : ℕ) (a b b' c out : List ℕ) → a ≡ put d at (take 16 s) → b ≡ put a (at + 16) (take 16 (drop 16 s))
      → c ≡ put b' (at + 32) (take 16 (drop 32 s)) → out ≡ put c (at + 48) (take (length s - 48) (drop 48 s)) → b' ≡ b
      → at + 64 ≤ length d → out ≡ put d at s
  four_blocks d at a b b' c out ea eb ec ed on room =
      let two = parts_on d at s 16 a ea b 16 (omega arith) eb in
      let three = parts_on d at s 32 b two c 16 (omega arith) (rw on at ec) in
      parts_end d at s 48 c three out 48 ed (omega arith) (omega arith) (omega arith)

pub ruleset four_blocks_laws = (rules, first_block, four_blocks)
