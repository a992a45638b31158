-- Laws of octet strings: what is written reads back, reading across a seam, and buffers after one write or two. By computation and append laws.
--
use mathlib.Core.Path.{◌≡◌, refl, ◌∙◌}
use mathlib.Core.List.{List, [], ◌∷◌, ◌++◌, append_assoc, append-nil}
use Prim.Native.Nat.{ℕ, ◌+◌, ◌-◌, ◌/◌, ◌%◌, ◌<◌, ◌≤◌}
use native.Mathlib.Omega.{arith}
use native.Mathlib.Nat.{zero-add, add-zero, add_assoc}
use native.Mathlib.Numerals.{add-one}
use lib.ListN.{length, get_or, take, drop, length-append, length-drop, drop_of_length-le, take-append-drop, get_or-append}
use lib.Seq.{drop-cons, take_all, take-append_seam, take_at, drop_at, drop-append-add, drop-drop, length-take-le, get_or-append-add, get_or-drop, get_or-take}
use Rattle.rules.proofs.TestLaws.{by_order}
use Rattle.rules.specs.Octets.{octet, be16, octets16, part, put}

-- sixteen bits written read back
pub be16_octets16 : (n : ℕ) (t : List ℕ) → n < 65536 → be16 (octets16 n ++ t) 0 ≡ n
be16_octets16 n t fits = omega arith

-- and sixteen bits read are written as they were
pub octets16_be16 : (s : List ℕ) (n : ℕ) → ((i : ℕ) → get_or s i 0 < 256) → n + 1 < length s → octets16 (be16 s n) ≡ part s n 2
octets16_be16 s n small h =
    let high : be16 s n / 256 % 256 ≡ get_or s n 0 = omega (arith, small n, small (n + 1)) in
    let low : be16 s n % 256 ≡ get_or s (n + 1) 0 = omega (arith, small n, small (n + 1)) in
    let there : drop n s ≡ get_or s n 0 ∷ drop (n + 1) s = rw add-one (drop-cons s n 0 (omega arith)) in
    rw (there, drop-cons s (n + 1) 0 h) (cc (high, low))

-- reading before and after a seam
module _ (s t : List ℕ) where
  pub octet_before : (at : ℕ) → at < length s → octet (s ++ t) at ≡ octet s at
  octet_before at h = rw (get_or-append s t 0 at h)

  pub octet_after : (n : ℕ) → octet (s ++ t) (length s + n) ≡ octet t n
  octet_after n = rw (get_or-append-add s t n 0)

  pub be16_before : (at : ℕ) → at + 1 < length s → be16 (s ++ t) at ≡ be16 s at
  be16_before at h = rw (octet_before at (omega arith), octet_before (at + 1) h)

  pub be16_after : (n : ℕ) → be16 (s ++ t) (length s + n) ≡ be16 t n
  be16_after n =
      let e : length s + n + 1 ≡ length s + (n + 1) = omega arith in
      rw (e, octet_after n, octet_after (n + 1))

  pub be16_at : be16 (s ++ t) (length s) ≡ be16 t 0
  be16_at = rw add-zero at (be16_after 0)

-- a part of an octet string reads as the string does from its start on
pub octet_drop : (s : List ℕ) (n at : ℕ) → octet (drop n s) at ≡ octet s (n + at)
octet_drop s n at = rw (get_or-drop n s at 0)

pub octet_part : (s : List ℕ) (n size at : ℕ) → at < size → octet (part s n size) at ≡ octet s (n + at)
octet_part s n size at h = rw (get_or-take size (drop n s) at 0 h) (octet_drop s n at)

pub length_part : (s : List ℕ) (n size : ℕ) → n + size ≤ length s → length (part s n size) ≡ size
length_part s n size h = length-take-le size (drop n s) (rw length-drop (omega arith))

pub be16_part : (s : List ℕ) (n size : ℕ) → 2 ≤ size → be16 (part s n size) 0 ≡ be16 s n
be16_part s n size h = rw (octet_part s n size 0 (omega arith), octet_part s n size 1 (omega arith), add-zero)

-- what is left after a part is what is left from its end on
pub drop_part : (s : List ℕ) (n size : ℕ) → part s n size ++ drop (n + size) s ≡ drop n s
drop_part s n size = rw (← drop-drop size n s, take-append-drop)

-- buffers
module _ (d : List ℕ) (at : ℕ) (s : List ℕ) where
  length_head : at ≤ length d → length (take at d ++ s) ≡ at + length s
  length_head h = rw (length-append, length-take-le at d h)

  pub length_put : at + length s ≤ length d → length (put d at s) ≡ length d
  unfolding put
  length_put fits = rw (length-append, length_head (omega arith), length-drop) (omega arith)

  put_past : length d ≤ at → put d at s ≡ d ++ s
  unfolding put
  put_past h = rw (take_all at d h, drop_of_length-le d {i = at + length s} (omega arith), append-nil)

-- two writes, the second where the first ends, are one
module _ (d : List ℕ) (at : ℕ) (s : List ℕ) (at' : ℕ) (t : List ℕ) (e : at' ≡ at + length s) where
  put_within : at ≤ length d → put (put d at s) at' t ≡ put d at (s ++ t)
  unfolding put
  put_within h =
      let head = length_head d at s h in
      let tk = take_at (take at d ++ s) (drop (at + length s) d) (at + length s) head in
      let dr : drop (at + length s + length t) (take at d ++ s ++ drop (at + length s) d) ≡ drop (at + length s + length t) d =
      rw (← head, drop-append-add) (rw head (drop-drop (length t) (at + length s) d)) in
      rw (e, tk, dr, length-append, append_assoc (take at d) s t, add_assoc at (length s) (length t))

  pub put_put : put (put d at s) at' t ≡ put d at (s ++ t)
  put_put =
      by_order (length d) at
      (λ h.
      rw (put_past d at s (omega arith), put_past d at (s ++ t) (omega arith), ← append_assoc d s t)
      (put_past (d ++ s) at' t (rw length-append (omega arith))))
      put_within

-- a write over a shorter one leaves nothing of it
put_over : (d : List ℕ) (at : ℕ) (s t : List ℕ) → at ≤ length d → length s ≤ length t → put (put d at s) at t ≡ put d at t
unfolding put
put_over d at s t h k =
    let rest = drop (at + length s) d in
    let head = length_head d at s h in
    let j = length t - length s in
    let tk : take at (take at d ++ s ++ rest) ≡ take at d = rw (append_assoc (take at d) s rest) (take_at (take at d) (s ++ rest) at (length-take-le at d h)) in
    let as_far : at + length t ≡ at + length s + j = omega arith in
    let dr : drop (at + length t) (take at d ++ s ++ rest) ≡ drop (at + length t) d =
    rw (as_far, ← head, drop-append-add) (rw head (drop-drop j (at + length s) d)) in
    rw (tk, dr)

pub put_tail : (d : List ℕ) (at : ℕ) (s t u : List ℕ) → at + length s ≤ length d → length t ≤ length u
    → put (put d at (s ++ t)) (at + length s) u ≡ put d at (s ++ u)
put_tail d at s t u h k =
    rw (← put_put d at s (at + length s) t refl, put_over (put d at s) (at + length s) t u (rw (length_put d at s h) h) k)
    (put_put d at s (at + length s) u refl)

-- a write within another one
pub put_inside : (d : List ℕ) (at : ℕ) (s t u v : List ℕ) → at ≤ length d → length t ≡ length v
    → put (put d at (s ++ t ++ u)) (at + length s) v ≡ put d at (s ++ v ++ u)
unfolding put
put_inside d at s t u v h e =
    let rest = drop (at + length (s ++ t ++ u)) d in
    let head = take at d ++ s in
    let long = length_head d at s h in
    let further : length (head ++ t) ≡ at + length s + length v = length-append head t ∙ rw (long, e) in
    let one : take at d ++ (s ++ t ++ u) ++ rest ≡ head ++ (t ++ u ++ rest) = simp append_assoc in
    let two : take at d ++ (s ++ t ++ u) ++ rest ≡ head ++ t ++ (u ++ rest) = simp append_assoc in
    let tk : take (at + length s) (take at d ++ (s ++ t ++ u) ++ rest) ≡ head = rw one (take_at head (t ++ u ++ rest) (at + length s) long) in
    let dr : drop (at + length s + length v) (take at d ++ (s ++ t ++ u) ++ rest) ≡ u ++ rest =
    rw two (drop_at (head ++ t) (u ++ rest) (at + length s + length v) further) in
    let same : length (s ++ v ++ u) ≡ length (s ++ t ++ u) = rw (length-append (s ++ v) u, length-append (s ++ t) u, length-append s v, length-append s t, e) in
    rw (tk, dr, same) (simp append_assoc)

pub put_front : (d s : List ℕ) → put d 0 s ≡ s ++ drop (length s) d
unfolding put
put_front d s = rw zero-add

pub put_none : (d : List ℕ) (at : ℕ) → put d at [] ≡ d
unfolding put
put_none d at = rw (append-nil, add-zero, take-append-drop)

-- a buffer begins with what was written at its start
pub take_put : (d s : List ℕ) → take (length s) (put d 0 s) ≡ s
take_put d s = rw (put_front, take-append_seam)
