-- The way out that a caller asks for (T-11): by what is looked up of one destination, by settings octets, and by a store. By cases of the record
-- that rules.
use Rattle.std.specs.Prelude.{Some, None}
use mathlib.Core.Path.{◌≡◌, refl, sym, ◌∙◌}
use mathlib.Core.List.{List}
use mathlib.Core.Bool.{Bool, true, false, not}
use Prim.Native.Nat.{ℕ, ◌≤◌, ◌<◌}
use native.Mathlib.Omega.{arith}
use native.Mathlib.Nat.{zero-add}
use borrow.Author.Rules.{rules}
use borrow.Author.Tests.{lt-ltb, le-ltb, not-true, not-false}
use lib.ListN.{length}
use Rattle.rules.specs as rules
use rules.{Link.link, WayOut.way_out_by, WayOut.way_out}
use rules.{Settings.Ways, Settings.settings_of, Campus.known}
use rules.declared.NextHop.{NextHop}
use Rattle.rules.proofs.{OctetLaws.put_none, FrameLaws.length_link, FrameLaws.link_most}
use Rattle.octets.specs.Copy.{Wrote}
use Rattle.handler.specs
use specs.declared.way.{Lookup.Lookup, WayOut.WayOut}
use specs.{Shapes.link_size, Shapes.switch_at, Shapes.ways_by, Shapes.only_for, Shapes.WayDone}
use Rattle.stores.specs.Store.{store_good, ways_in, way_out_in, Whole}
use Rattle.stores.proofs.IndexLaws.{good_whole}
use Rattle.handler.proofs.CallLaws.{settings_none, settings_some, found_laws}
use Rattle.rules.specs.WayOut as W

-- T-11, by what is looked up of one destination
module _ (t : Lookup) (out : List ℕ) where
  abbrev asked : W.WayOut
  asked = way_out_by (ways_by t) 0 (length out)

  pub out_none : (r : WayOut) → r ≡ record { number = 21; length = 0 } → t.hop ≡ None → WayDone asked r out out
  unfolding way_out_by
  out_none r is e = rw (way_out_by, e) (record { answer = is; after = sym (put_none out 0) })

  module _ (q : NextHop) (e : t.hop ≡ Some q) (n : ℕ) (size : n ≡ link_size q.vlan) where
    long : length (link (ways_by t) q) ≡ n
    long = length_link (ways_by t) q ∙ sym size

    pub out_short : (r : WayOut) → r ≡ record { number = 2; length = 0 } → length out < n → WayDone asked r out out
    unfolding way_out_by
    out_short r is h = rw (way_out_by, e, long, lt-ltb (length out) n h) (record { answer = is; after = sym (put_none out 0) })

    pub out_written : n ≤ length out → (k : ℕ) (out1 : List ℕ) → Wrote (link (ways_by t) q) 0 k out out1
        → WayDone asked (record { number = 0; length = k }) out out1
    unfolding way_out_by
    out_written h k out1 w = rw (way_out_by, e, w.ends, zero-add, long, le-ltb (length out) n h) (record { answer = rw long; after = w.after })

pub out_fits : (S : Ways) (q : NextHop) (k : ℕ) (out out1 : List ℕ) → Wrote (link S q) 0 k out out1 → k < 4294967296
out_fits S q k out out1 w = omega (arith, link_most S q)

pub ruleset way_out_laws = (rules, out_none, out_short, out_written, out_fits)

-- and by settings octets or a store, of which it is looked up
one_asked : (S : Ways) (d room : ℕ) → way_out_by (only_for d S) 0 room ≡ way_out_by S d room
unfolding way_out_by link
one_asked S d room = refl

pub way_asked : (t : Lookup) (d : ℕ) (S : Ways) → ways_by t ≡ only_for d S → (out : List ℕ) (r : WayOut) (out' : List ℕ)
    → WayDone (way_out_by (ways_by t) 0 (length out)) r out out' → WayDone (way_out_by S d (length out)) r out out'
way_asked t d S said out r out' w = rw (said, one_asked S d (length out)) at w

pub ruleset way_out_at_laws = (rules, way_asked)

module _ (settings : List ℕ) (d : ℕ) (out : List ℕ) (r : WayOut) where
  pub settings_no_way : known (settings_of settings) ≡ false → r ≡ record { number = 1; length = 0 } → WayDone (way_out settings d (length out)) r out out
  unfolding way_out
  settings_no_way k e = rw (way_out, settings_none settings k) (record { answer = e; after = sym (put_none out 0) })

  pub settings_way : known (settings_of settings) ≡ true → (out' : List ℕ) → WayDone (way_out_by (switch_at settings) d (length out)) r out out'
      → WayDone (way_out settings d (length out)) r out out'
  unfolding way_out
  settings_way k out' w = rw (way_out, settings_some settings k) w

pub store_whole : (store : List ℕ) {ok : Bool} → ok ≡ store_good store → not ok ≡ false → Whole store
store_whole store {ok} is n = good_whole store (sym is ∙ not-false ok n)

module _ (store : List ℕ) (d : ℕ) (out : List ℕ) {ok : Bool} (is : ok ≡ store_good store) (r : WayOut) where
  pub store_no_way : not ok ≡ true → r ≡ record { number = 1; length = 0 } → WayDone (way_out_in store d (length out)) r out out
  unfolding way_out_in
  store_no_way n e = rw (← is, not-true ok n) (record { answer = e; after = sym (put_none out 0) })

  pub store_way : not ok ≡ false → (out' : List ℕ) → WayDone (way_out_by (ways_in store) d (length out)) r out out'
      → WayDone (way_out_in store d (length out)) r out out'
  unfolding way_out_in
  store_way n out' w = rw (← is, not-false ok n) w

pub ruleset settings_way_laws = (found_laws, settings_no_way, settings_way)

pub ruleset way_out_prepared_laws = (rules, store_whole, store_no_way, store_way)
