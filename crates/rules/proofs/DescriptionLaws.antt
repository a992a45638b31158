-- What is known of an accepted description: 1 to 16 good switches, an entry switch among them, a clock of six octets, a frame that fits.
-- By an invariant of reading its fields, and induction on them.
use Rattle.std.specs.Prelude.{Option, Some}
use mathlib.Core.Path.{◌≡◌, refl}
use mathlib.Core.Logic.{inl, inr}
use mathlib.Core.List.Memᴰ
use mathlib.Core.List.{List, [], ◌∷◌, Memᴰ}
use mathlib.Core.Bool.{true, false}
use Prim.Native.Nat.{ℕ, ◌<◌, ◌≤◌}
use native.Mathlib.Omega.{arith}
use borrow.Author.Tests.{ltb-true, leb-true, eqb-true, eqb-false, not-true, not-false}
use lib.Dec.{eqb}
use lib.ListN.{length, drop, length-append, length-drop}
use specs.{Octets.be16, Handling.frame_most}
use specs.Fields.{Field, field, cut, fields, length_good}
use specs.Settings.{Settings, hop_good, switch_good, switch_of, hop_of, hops_most, with_field, with_hop}
use specs.Campus.{Described, nothing_yet, switch_named, known, order_good, value_good, switches_most, latest_hops, room_good, field_refusal, on_latest, with_next}
use specs.Campus.{Description, refused, accepted, described_from, described, clock_of}
use specs.declared.NextHop.{NextHop}
use proofs.TestLaws.{tests, apart, by_test, either, IfNone, by_option, and_left, and_right, each_of}
use proofs.RunLaws.{named_member}
use Rattle.rules.specs
use Rattle.rules.proofs

-- a field that is not refused, as far as the invariant needs it
record Admitted (d : Described) (tag : ℕ) (v : List ℕ) : Type 0 where
  pub its_length : length_good tag (length v) ≡ true
  pub in_order : order_good d tag ≡ true
  pub its_value : value_good tag v ≡ true
  pub has_room : room_good d tag ≡ true

admitted : (d : Described) (tag : ℕ) (v : List ℕ) → field_refusal d (field tag v) ≡ 0 → Admitted d tag v
unfolding field_refusal
admitted d tag v e = rw e at passed
  where
    passed : IfNone (Admitted d tag v) (field_refusal d (field tag v))
    passed = search (either (IfNone (Admitted d tag v)), not-false) depth 12

-- a switch within the settings rules
pub record GoodSwitch (S : Settings) : Type 0 where
  pub own : switch_good S ≡ true
  pub few_hops : length S.hops ≤ hops_most
  pub good_hops : (r : NextHop) → Memᴰ r S.hops → hop_good r ≡ true

pub nickname_fits : (S : Settings) → GoodSwitch S → S.nickname < 65536
unfolding switch_good
nickname_fits S g =
    let most : S.nickname ≤ 0xFFBF = search (leb-true, and_left, and_right, g.own) in
    omega arith

-- one more field keeps a switch good
good_with : (S : Settings) (tag : ℕ) (v : List ℕ) → GoodSwitch S → value_good tag v ≡ true → (tag ≡ 2 → length S.hops < hops_most)
    → GoodSwitch (with_field S (field tag v))
unfolding with_field switch_good value_good
good_with S tag v g value room = search (either GoodSwitch, hop, eqb-true)
  where
    hop : tag ≡ 2 → GoodSwitch (with_hop S (hop_of v))
    hop two =
        record {
          own = g.own;
          few_hops = rw (length-append S.hops) (omega (arith, room two));
          good_hops = λ r i.
              elim (Memᴰ.append_cases S.hops i) [
                | inl j ↦ g.good_hops r j
                | inr j ↦ rw (Memᴰ.eq_of_singleton j) (rw two at value)
              ];
        }

-- the invariant, part by part: few switches, all good; a clock of six octets; an entry switch by its nickname; a frame that fits
pub record Switches (l : List Settings) : Type 0 where
  pub few : length l ≤ switches_most
  pub good : (S : Settings) → Memᴰ S l → GoodSwitch S

unfoldable pub Clocked : Option (List ℕ) → Type 0
Clocked clock = (v : List ℕ) → clock ≡ Some v → length v ≡ 6

unfoldable pub Named : List Settings → Option Settings → Type 0
Named l entry = (S : Settings) → entry ≡ Some S → (n : ℕ) × (switch_named l n ≡ Some S)

pub record Sound (d : Described) : Type 0 where
  pub switches : Switches d.switches
  pub clocked : Clocked d.clock
  pub named : Named d.switches d.entry
  pub short : length d.frame ≤ frame_most

nothing_sound : Sound nothing_yet
unfolding Clocked Named
nothing_sound =
    record {
      switches = record { few = omega arith; good = λ S i. absurd (Memᴰ.not-nil i) };
      clocked = λ v e. apart cc;
      named = λ S e. apart cc;
      short = omega arith;
    }

module _ (d : Described) (s : Sound d) (tag : ℕ) (v : List ℕ) (a : Admitted d tag v) where
  -- no field comes after the entry switch
  unnamed : (l : List Settings) → Named l d.entry
  unfolding order_good Named
  unnamed l = λ S e. let none_yet : known d.entry ≡ false = search (not-true, and_left, a.in_order) in apart cc

  new_entry : Named d.switches (switch_named d.switches (be16 v 0))
  unfolding Named
  new_entry = λ S e. (be16 v 0, e)

  more_switches : tag ≡ 1 → Switches (switch_of v ∷ d.switches)
  unfolding room_good value_good
  more_switches is =
      record {
        few = omega (arith, ltb-true (length d.switches) switches_most (rw is at a.has_room));
        good =
            each_of GoodSwitch (record { own = rw is at a.its_value; few_hops = omega arith; good_hops = λ r i. absurd (Memᴰ.not-nil i) })
            s.switches.good;
      }

  latest_changed : (l : List Settings) → Switches l → (tag ≡ 2 → elim l [ [] ↦ 0 | S ∷ rest ↦ length S.hops ] < hops_most)
      → Switches (on_latest (λ S. with_field S (field tag v)) l)
  latest_changed [] w room = w
  latest_changed (S ∷ rest) w room =
      record {
        few = w.few;
        good =
            each_of GoodSwitch (good_with S tag v (w.good S (Memᴰ.head refl)) a.its_value room) (λ T j. w.good T (Memᴰ.tail j));
      }

  hops_room : tag ≡ 2 → latest_hops d < hops_most
  unfolding room_good
  hops_room is = ltb-true (latest_hops d) hops_most (rw is at a.has_room)

  new_clock : tag ≡ 4 → Clocked (Some v)
  unfolding length_good Clocked
  new_clock is = λ w e. let same : v ≡ w = cc in rw (← same) (eqb-true (length v) 6 (rw is at a.its_length))

  new_frame : tag ≡ 5 → length (drop 2 v) ≤ frame_most
  unfolding length_good
  new_frame is =
      let most : length v ≤ 2050 = search (leb-true, and_right, rw is at a.its_length) in
      rw length-drop (omega arith)

  with_field_lem : Sound (with_next d (field tag v))
  unfolding with_next
  with_field_lem =
      search (either Sound, more_switches, latest_changed d.switches s.switches hops_room, new_clock, new_entry, unnamed, new_frame, eqb-true) depth 9

next_sound : (d : Described) (f : Field) → Sound d → field_refusal d f ≡ 0 → Sound (with_next d f)
unfolding field_refusal
next_sound d cut s e = absurd (omega arith)
next_sound d (field tag v) s e = with_field_lem d s tag v (admitted d tag v e)

-- reading on, by outcome
module _ (d : Described) where
  pub described_end : known d.entry ≡ true → described_from d [] ≡ accepted d
  unfolding described_from
  described_end e = rw e

  pub described_none : known d.entry ≡ false → described_from d [] ≡ refused 43
  unfolding described_from
  described_none e = rw e

  module _ (f : Field) (fs : List Field) where
    pub described_on : field_refusal d f ≡ 0 → described_from d (f ∷ fs) ≡ described_from (with_next d f) fs
    unfolding described_from
    described_on e = simp (described_from, tests)

    pub described_refused : (field_refusal d f ≡ 0 → ⊥) → described_from d (f ∷ fs) ≡ refused (field_refusal d f)
    unfolding described_from
    described_refused e = simp (described_from, tests)

-- whatever a description is read as: accepted, with an entry switch, or refused by a code of two digits, not 0
abbrev pub ResultSound : Description → Type 0
ResultSound (accepted d) = Sound d × (known d.entry ≡ true)
ResultSound (refused code) = (0 < code) × (code < 100)

refusal_small : (d : Described) (f : Field) → field_refusal d f < 100
unfolding field_refusal
refusal_small d cut = omega arith
refusal_small d (field tag v) = search (either (λ n. n < 100), leb-true) depth 12

from_result : (d : Described) (fs : List Field) → Sound d → ResultSound (described_from d fs)
unfolding described_from
from_result d [] s = by_test (known d.entry) (λ k. rw k (s, k)) (λ k. rw k (omega arith))
from_result d (f ∷ fs) s =
    by_test (eqb (field_refusal d f) 0)
    (λ k. rw (described_from, k) (from_result (with_next d f) fs (next_sound d f s (eqb-true (field_refusal d f) 0 k))))
    (λ k. let n = eqb-false (field_refusal d f) 0 k in rw (described_from, k) (omega (arith, refusal_small d f)))

pub described_result : (file : List ℕ) → ResultSound (described file)
unfolding described
described_result file = search (either ResultSound, from_result nothing_yet (fields file) nothing_sound, leb-true)

-- what is known of an accepted description
pub record Accepted (d : Described) : Type 0 where
  pub some_switch : 1 ≤ length d.switches
  pub few_switches : length d.switches ≤ switches_most
  pub good_switches : (S : Settings) → Memᴰ S d.switches → GoodSwitch S
  pub entry : Settings
  pub entered : d.entry ≡ Some entry
  pub named : (n : ℕ) × (switch_named d.switches n ≡ Some entry)
  pub six_clock : length (clock_of d) ≡ 6
  pub short_frame : length d.frame ≤ frame_most

member_some : {A : Type 0} {a : A} {l : List A} → Memᴰ a l → 1 ≤ length l
member_some (Memᴰ.head e) = omega arith
member_some (Memᴰ.tail m) = omega arith

pub accepted_good : (file : List ℕ) (d : Described) → described file ≡ accepted d → Accepted d
unfolding clock_of Clocked Named
accepted_good file d e =
    let t : ResultSound (accepted d) = (rw e at (described_result file)) in
    let s = t.0 in
    by_option d.entry (λ n. apart (cc t.1)) (λ S is.
    let n = s.named S is in
    record {
      some_switch = member_some (named_member d.switches n.0 S n.1);
      few_switches = s.switches.few;
      good_switches = s.switches.good;
      entry = S;
      entered = is;
      named = n;
      six_clock = by_option d.clock (λ c. rw (clock_of, c)) (λ v c. rw (clock_of, c) (s.clocked v c));
      short_frame = s.short;
    })
