-- The text as the code makes it, digit by digit, piece by piece and line by line. By computation and the laws of buffers; one law for each
-- need, for `search` to cite.
use mathlib.Core.Path.{◌≡◌, refl, sym}
use mathlib.Core.List.{List, [], ◌∷◌, ◌++◌}
use Prim.Native.Nat.{ℕ, zero, suc, ◌+◌, ◌*◌, ◌/◌, ◌%◌, ◌<◌, ◌≤◌}
use native.Mathlib.Omega.{arith}
use borrow.Author.Rules.{rules}
use borrow.Author.Tests.{eq-eqb, ne_eqb, lt-ltb, le-ltb}
use lib.ListN.{length, get_or, take, drop}
use lib.Seq.{get_or-take, take-length}
use Rattle.rules.specs.Text.{ascii, line_feed, hex_digit, decimal}
use Rattle.rules.proofs.TextLaws.{decimal_one, decimal_two, decimal_three, decimal_four}
use Rattle.octets.specs.Copy.{Wrote, fitting}
use Rattle.octets.proofs.Ends.{copied, joined, wrote_none, wrote_long}
use Rattle.std.specs.List.{flat_map}
use Rattle.std.specs.Simd.{first_chunks}
use Rattle.std.proofs.lemmas.List.{flat_map_more, take_more}
use Rattle.text.specs.Print.{PutAt, letter_of, head_of, tail_of, line_of, lines_of, text_of}

-- digits and letters
module _ (n : ℕ) where
  pub hex_low : n < 10 → 48 + n ≡ hex_digit n
  unfolding hex_digit
  hex_low h = simp lt-ltb

  pub hex_high : 10 ≤ n → 55 + n ≡ hex_digit n
  unfolding hex_digit
  hex_high h = simp le-ltb

pub ruleset hex_digit_laws = (rules, hex_low, hex_high)

module _ (kind : ℕ) where
  pub letter_original : kind ≡ 0 → 0x4F ≡ letter_of kind
  unfolding letter_of
  letter_original e = rw e

  pub letter_reply : (kind ≡ 0 → ⊥) → 0x52 ≡ letter_of kind
  unfolding letter_of
  letter_reply h = simp ne_eqb

pub ruleset letter_laws = (rules, letter_original, letter_reply)

-- one piece copied, and two pieces one after the other
put_copied : {out out' s t : List ℕ} {at end most : ℕ} → Wrote (fitting out at s) at end out out' → at + length s ≤ length out → length s ≤ most → s ≡ t
    → PutAt out out' at end most t
put_copied w room short same = let c = copied w refl room in rw (← same) (record { wrote = c; short = omega arith })

put_on : {out mid out' : List ℕ} {at here end m n : ℕ} {s t : List ℕ} → PutAt out mid at here m s → PutAt mid out' here end n t
    → PutAt out out' at end (m + n) (s ++ t)
put_on a b = record { wrote = joined a.wrote b.wrote; short = omega arith }

-- a number of one, two, three or four digits
module _ (out out' : List ℕ) (at end n : ℕ) (room : at + 4 ≤ length out) (last : ℕ) (is_last : last ≡ 48 + n % 10) where
  pub put_one : Wrote (fitting out at (last ∷ [])) at end out out' → n < 10 → PutAt out out' at end 4 (decimal n)
  put_one w h =
      let one : last ≡ 48 + n = omega arith in
      put_copied w (omega arith) (omega arith) (rw one (decimal_one n h))

  module _ (tens : ℕ) (is_tens : tens ≡ 48 + n / 10 % 10) where
    pub put_two : Wrote (fitting out at (tens ∷ last ∷ [])) at end out out' → 10 ≤ n → n < 100 → PutAt out out' at end 4 (decimal n)
    put_two w h k =
        let two : tens ≡ 48 + n / 10 = omega arith in
        put_copied w (omega arith) (omega arith) (rw (two, is_last) (decimal_two n h k))

    module _ (hundreds : ℕ) (is_hundreds : hundreds ≡ 48 + n / 100 % 10) where
      pub put_three : Wrote (fitting out at (hundreds ∷ tens ∷ last ∷ [])) at end out out' → 100 ≤ n → n < 1000 → PutAt out out' at end 4 (decimal n)
      put_three w h k =
          let three : hundreds ≡ 48 + n / 10 / 10 = omega arith in
          put_copied w (omega arith) (omega arith) (rw (three, is_tens, is_last) (decimal_three n h k))

      pub put_four : (first : ℕ) → first ≡ 48 + n / 1000 % 10 → Wrote (fitting out at (first ∷ hundreds ∷ tens ∷ last ∷ [])) at end out out'
          → 1000 ≤ n → n < 10000 → PutAt out out' at end 4 (decimal n)
      put_four first is_first w h k =
          let four : first ≡ 48 + n / 10 / 10 / 10 = omega arith in
          let three : hundreds ≡ 48 + n / 10 / 10 % 10 = omega arith in
          put_copied w (omega arith) (omega arith) (rw (four, three, is_tens, is_last) (decimal_four n h k))

pub ruleset put_decimal_laws = (rules, put_one, put_two, put_three, put_four)

-- three pieces
module _ {out mid : List ℕ} {at here : ℕ} (s u : List ℕ) (w : Wrote (fitting out at s) at here out mid)
    (room : at + (length s + 4 + length u) ≤ length out) where
  first : Wrote s at here out mid
  first = copied w refl (omega arith)

  pub number_room : length mid ≡ length out → here + 4 ≤ length mid
  number_room same = let a = first in omega arith

  pub put_between : {mid' out' t : List ℕ} {there end : ℕ} → PutAt mid mid' here there 4 t → Wrote (fitting mid' there u) there end mid' out'
      → PutAt out out' at end (length s + 4 + length u) (s ++ t ++ u)
  put_between p v =
      let a = first in
      let b = joined a p.wrote in
      let c = copied v refl (omega (arith, wrote_long b (omega arith))) in
      record { wrote = joined b c; short = omega arith }

pub ruleset put_number_laws = (rules, number_room, put_between)

-- a line, its parts around the answer
pub put_line : {out out' : List ℕ} {at end : ℕ} (e : List ℕ) {head tail : List ℕ} {n : ℕ}
    → PutAt out out' at end (length head + 4 + length tail) (head ++ decimal n ++ tail) → head ≡ head_of e → tail ≡ tail_of e → n ≡ get_or e 3 0
    → PutAt out out' at end 20 (line_of e)
unfolding line_of
put_line e p h t q = rw (h, t, q) at p

pub ruleset put_line_laws = (rules, put_line)

-- what the loop over the entries keeps
pub record Writing (out₀ : List ℕ) (entries : List (List ℕ)) (out : List ℕ) (at k : ℕ) : Type 0 where
  pub so_far : PutAt out₀ out 0 at (k * 20) (flat_map line_of (take k entries))
  pub within : k ≤ length entries
  pub same : length out ≡ length out₀

module _ {out₀ : List ℕ} {entries : List (List ℕ)} where
  pub writing_begin : Writing out₀ entries out₀ 0 0
  writing_begin = record { so_far = record { wrote = wrote_none out₀ 0; short = omega arith }; within = omega arith; same = refl }

  module _ {out : List ℕ} {at k : ℕ} (l : Writing out₀ entries out at k) where
    pub writing_end : length entries ≤ k → PutAt out₀ out 0 at (length entries * 20) (flat_map line_of entries)
    writing_end over =
        let e : k ≡ length entries = omega (arith, l.within) in
        rw (e, take-length) at l.so_far

    pub writing_on : length entries * 20 ≤ length out₀ → k < length entries → (out' : List ℕ) (end : ℕ)
        → PutAt out out' at end 20 (line_of (get_or entries k [])) → Writing out₀ entries out' end (k + 1)
    writing_on room more out' end p =
        let n : (k + 1) * 20 ≡ k * 20 + 20 = omega arith in
        let t : flat_map line_of (take (k + 1) entries) ≡ flat_map line_of (take k entries) ++ line_of (get_or entries k []) =
        rw (take_more entries k [] more) (sym (flat_map_more line_of [] (take k entries) (get_or entries k []))) in
        record { so_far = rw (n, t) (put_on l.so_far p); within = omega arith; same = wrote_long (put_on l.so_far p).wrote (omega arith) }

pub ruleset put_lines_laws = (rules, writing_begin, writing_end, writing_on)

-- the entries of a trace are eight octets each
entry_line : (e : List ℕ) → line_of (take 8 e) ≡ line_of e
unfolding line_of
entry_line e =
    rw (
      get_or-take 8 e 0 0 (omega arith),
      get_or-take 8 e 1 0 (omega arith),
      get_or-take 8 e 2 0 (omega arith),
      get_or-take 8 e 3 0 (omega arith),
      get_or-take 8 e 4 0 (omega arith),
      get_or-take 8 e 6 0 (omega arith),
      get_or-take 8 e 7 0 (omega arith),
    )

lines_entries : (count n : ℕ) (trace : List ℕ) → count ≤ n → flat_map line_of (take count (first_chunks 8 n trace)) ≡ lines_of count trace
unfolding lines_of
lines_entries zero n trace h = refl
lines_entries (suc count) zero trace h = absurd (omega arith)
lines_entries (suc count) (suc n) trace h = rw (entry_line trace, lines_entries count n (drop 8 trace) (omega arith))

-- the whole text, by the code
module _ (code count : ℕ) (trace : List ℕ) where
  pub text_refused : (code ≡ 0 → ⊥) → ascii "refused " ++ decimal code ++ (line_feed ∷ []) ≡ text_of code count trace
  unfolding text_of
  text_refused h = rw (text_of, ne_eqb code 0 h)

  pub text_handled : code ≡ 0 → lines_of count trace ++ (ascii "handled " ++ decimal count ++ (line_feed ∷ [])) ≡ text_of code count trace
  unfolding text_of
  text_handled h = rw (text_of, eq-eqb code 0 h)

  module _ (out out' : List ℕ) (end : ℕ) where
    -- `refused ` and `handled ` as the code has them
    abbrev refused_octets : List ℕ
    refused_octets = 114 ∷ 101 ∷ 102 ∷ 117 ∷ 115 ∷ 101 ∷ 100 ∷ 32 ∷ []

    abbrev handled_octets : List ℕ
    handled_octets = 104 ∷ 97 ∷ 110 ∷ 100 ∷ 108 ∷ 101 ∷ 100 ∷ 32 ∷ []

    pub put_refused : PutAt out out' 0 end 13 (refused_octets ++ decimal code ++ (10 ∷ [])) → (code ≡ 0 → ⊥)
        → PutAt out out' 0 end (count * 20 + 13) (text_of code count trace)
    unfolding ascii
    put_refused p h = rw (← text_refused h) (search (arith, p))

    pub put_handled : (mid : List ℕ) (here : ℕ) → PutAt mid out' here end 13 (handled_octets ++ decimal count ++ (10 ∷ []))
        → (entries : List (List ℕ)) (n : ℕ) → entries ≡ take count (first_chunks 8 n trace) → count ≤ n → length entries ≡ count
        → PutAt out mid 0 here (length entries * 20) (flat_map line_of entries) → code ≡ 0
        → PutAt out out' 0 end (count * 20 + 13) (text_of code count trace)
    unfolding ascii
    put_handled mid here q entries n e few whole p h = rw (← text_handled h, ← lines_entries count n trace few, ← e) (put_on (rw whole at p) q)

pub ruleset put_text_laws = (rules, put_refused, put_handled)
