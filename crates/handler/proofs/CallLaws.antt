-- The whole call on settings octets: bad settings, and what good ones say to the handling of a frame. By one law for each need.
use Rattle.std.specs.Prelude.{Option, Some, None, Result, Ok, Err}
use Rattle.rules.specs.{Handling.routed, Handling.handled, Settings.Ways, Settings.Settings, Settings.settings_read, Settings.settings_of, Campus.known}
use Rattle.handler.specs
use Rattle.rules.specs.declared.Number.{Number}
use specs.declared.way.Own.{Own}
use specs.declared.frame.Frame.{Frame}
use specs.declared.validation.Validated.{Validated}
use specs.declared.answers.Answer.{Answer}
use specs.Tasks.{received_by, Receiving, Both}
use specs.Shapes.{switch_at, Owns, dropped_by}
use specs.Ranks.{Validates, ValidatedBy}
use Rattle.handler.proofs
use proofs.{RouteLaws.received_lent, StageLaws.done_dropped}
use proofs.TaskLaws.{both_of}
use mathlib.Core.Path.{◌≡◌, refl, sym, ap, ◌∙◌}
use mathlib.Core.List.{List}
use mathlib.Core.Bool.{true, false, true≢false, false≢true}
use Prim.Native.Nat.{ℕ, ◌/◌}
use borrow.Author.Rules.{rules}
use lib.ListN.{length}
use Rattle.rules.proofs.{SettingsLaws.settings_read_lem, HandlingLaws.settings_bad_lem, HandlingLaws.settings_good}
use Rattle.rules.specs.Answer as A

-- bad settings, and good ones
known_none : (o : Option Settings) → known o ≡ false → o ≡ None
known_none None k = refl
known_none (Some T) k = absurd (true≢false k)

known_some : (o : Option Settings) (T : Settings) → ((S : Settings) → o ≡ Some S → T ≡ S) → known o ≡ true → o ≡ Some T
known_some None T is k = absurd (false≢true k)
known_some (Some S) T is k = ap Some (sym (is S refl))

module _ (s : List ℕ) where
  pub settings_none : known (settings_of s) ≡ false → settings_of s ≡ None
  settings_none k = known_none (settings_of s) k

  pub settings_some : known (settings_of s) ≡ true → settings_of s ≡ Some (settings_read s)
  settings_some k = known_some (settings_of s) (settings_read s) (settings_read_lem s) k

-- what was found in settings octets
module _ (s : List ℕ) (d : ℕ) (r : Option Validated) (is : ValidatedBy s d r) where
  pub found_none : r ≡ None → known (settings_of s) ≡ false
  found_none e = rw e at is

  module _ (found : Validated) (e : r ≡ Some found) where
    validates : Validates s d found
    validates = rw e at is

    pub found_good : known (settings_of s) ≡ true
    found_good = validates.good

    pub found_strips : found.strip ≡ (switch_at s).strip
    found_strips = validates.says.strips

    pub found_edition : found.rfc7179 ≡ (switch_at s).rfc7179
    found_edition = validates.says.edition

    pub found_leads : found.hop ≡ (switch_at s).hop d
    found_leads = validates.says.leads

module _ (own : Own) (S : Ways) (o : Owns own S) where
  pub owns_nickname : own.nickname ≡ S.nickname
  owns_nickname = o.named

  pub owns_mac : own.word / 65536 ≡ S.mac
  owns_mac = o.addressed

pub ruleset found_laws = (rules, found_none, found_good, found_strips, found_edition, found_leads, owns_nickname, owns_mac)

-- the call
module _ (s clock f out beside : List ℕ) where
  abbrev answer : A.Handled
  answer = handled s clock (length out) (length beside) f

  pub trill_bad : known (settings_of s) ≡ false → (r : Answer) → r ≡ dropped_by 1 → Both answer r out out beside beside
  trill_bad k r e = rw (settings_bad_lem s clock (length out) (length beside) f (settings_none s k)) (both_of beside (done_dropped 1 refl e))

  module _ (k : known (settings_of s) ≡ true) (own : Own) (o : Owns own (switch_at s)) (received : Result Frame Number)
      (x : Receiving own clock f (length out) (length beside) received) where
    comes : answer ≡ received_by (switch_at s) received
    comes = settings_good s clock (length out) (length beside) f (settings_read s) (settings_some s k) ∙ x.same (switch_at s) o

    pub trill_early : (n : Number) → received ≡ Err n → (a : Answer) → a ≡ dropped_by (A.number_of n) → Both answer a out out beside beside
    trill_early n e a is = rw (comes, e) (both_of beside (done_dropped (A.number_of n) refl is))

    pub trill_good : (frame : Frame) → received ≡ Ok frame → (r : Answer) (out2 beside2 : List ℕ)
        → Both (routed (switch_at s) frame.time.now frame.octets.now frame.header) r out out2 beside beside2
        → Both answer r out out2 beside beside2
    trill_good frame e r out2 beside2 done = rw (comes, e) done

pub ruleset handle_laws = (found_laws, received_lent, trill_bad, trill_early, trill_good)
