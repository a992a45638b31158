-- A campus without an edition 2 switch: the plain run is the run that document 01 writes out, in which no reply waits, so it has at most 64 handlings
-- and the smaller of the number of switches and the hop count, and at most one reply arises. By induction on the handlings looked at: the switches
-- before one that replies differ.
use Rattle.std.specs.Prelude.{Option, Some}
use mathlib.Core.Path.{◌≡◌, ap, ◌∙◌}
use mathlib.Core.List.Memᴰ
use mathlib.Core.List.{List, [], ◌∷◌, Memᴰ}
use mathlib.Core.Bool.{true, false}
use Prim.Native.Nat.{ℕ, zero, suc, ◌+◌, ◌<◌, ◌≤◌, min}
use native.Mathlib.Omega.{arith}
use lib.ListN.{length}
use specs.{Settings.Settings, Settings.ways_of, Answer.Handled, Handling.handling, Campus.some_edition2}
use specs.Campus.{switch_named, Kind, reply, State, replies_made, staying, over, next, sent_on, first_waiting, next_after, run_from, hop_received, egress_received}
use specs.Demand.{replies_in, kind_after, single_run}
use proofs.TestLaws.{by_option, or_false, each_of}
use proofs.NextLaws.{made_reply}
use proofs.StepLaws.{hop_most, ours, towards, Forwarded, Answered, Does, does, does_make}
use proofs.WalkLaws.{Arrives, here, on, arrives_le}
use proofs.RunLaws.{named_member, run_none, run_over, run_on, made_few, runs, reply_most}
use Rattle.rules.specs
use Rattle.rules.proofs

-- a switch of edition 1
pub record Draft (S : Settings) : Type 0 where
  pub nickname_fits : S.nickname < 65536
  pub edition_1 : S.rfc7179 ≡ false

pub edition_1_all : (switches : List Settings) → some_edition2 switches ≡ false → (S : Settings) → Memᴰ S switches → S.rfc7179 ≡ false
unfolding some_edition2
edition_1_all [] e = λ S i. absurd (Memᴰ.not-nil i)
edition_1_all (T ∷ switches) e =
    let p = or_false T.rfc7179 (some_edition2 switches) e in
    each_of (λ S. S.rfc7179 ≡ false) p.0 (edition_1_all switches p.1)

module _ (switches : List Settings) (clock : List ℕ) where
  abbrev run : ℕ → ℕ → Settings → Kind → List ℕ → List State
  run m i S kind f = single_run m i switches clock S kind f

  abbrev answer : Settings → List ℕ → Handled
  answer S f = handling (ways_of S) clock f

  abbrev state : ℕ → Settings → Kind → List ℕ → State
  state i S kind f = record { handling_no = i; switch = S; kind = kind; frame = f; answer = handling (ways_of S) clock f }

  -- what is written, and the switch that it goes to
  abbrev sent : Settings → List ℕ → List ℕ
  sent S f = (handling (ways_of S) clock f).octets

  abbrev neighbour : Settings → List ℕ → Option Settings
  neighbour S f = switch_named switches (handling (ways_of S) clock f).via

  -- why the run goes on after a handling: what was forwarded, or a reply
  data Goes (S : Settings) (f : List ℕ) : Type 0 where
    forwarded : Forwarded S f (answer S f) → replies_made (answer S f) ≡ [] → Goes S f
    replied : Answered S f (sent S f) (answer S f).via → ours (egress_received f) S ≡ true → Goes S f

  -- one turn, of both runs: they stop, or go on at a neighbour
  data Turn (S : Settings) (kind : Kind) (f : List ℕ) : Type 0 where
    stops : next_after switches kind [] (answer S f) ≡ over → ((m i : ℕ) → run (suc m) i S kind f ≡ state i S kind f ∷ []) → Turn S kind f
    goes : (T : Settings) (kind' : Kind) → neighbour S f ≡ Some T → Goes S f
        → next_after switches kind [] (answer S f) ≡ next (answer S f).via kind' (sent S f) []
        → ((m i : ℕ) → run (suc m) i S kind f ≡ state i S kind f ∷ run m (suc i) T kind' (sent S f)) → Turn S kind f

  -- an original's way: without a reply at most h + 1 in all; with one it arrived at the k-th handling, k ≤ h, and the rest is 64
  data Way (e : ℕ) (S : Settings) (h c : ℕ) : Type 0 where
    unanswered : c ≤ suc h → Way e S h c
    answered : (k : ℕ) → Arrives switches (ours e) (towards switches e) S k → k ≤ h → c ≤ k + 64 → Way e S h c

  -- what holds of document 01's run
  record Holds (S : Settings) (f : List ℕ) (states : List State) : Type 0 where
    way : Way (egress_received f) S (hop_received f) (length states)
    few : replies_in states ≤ 1

  module _ (six : length clock ≡ 6) (fit : (S : Settings) → Memᴰ S switches → Draft S) where
    doing : (S : Settings) → Memᴰ S switches → (f : List ℕ) → Does S f (answer S f)
    doing S j f = does S clock f (fit S j).nickname_fits six

    turn : (S : Settings) → Memᴰ S switches → (kind : Kind) (f : List ℕ) → Turn S kind f
    unfolding next_after sent_on staying first_waiting kind_after single_run
    turn S j kind f =
        elim (doing S j f) [
          | Does.ends n s z ↦ stops (rw (n, z)) (λ m i. rw (single_run, n, s))
          | Does.forwards o m old ↦
              let z = old (fit S j).edition_1 in
              by_option (neighbour S f)
              (λ e. stops (rw (o.is_50, e, z)) (λ m i. rw (single_run, o.is_50, e)))
              (λ T e. goes T kind e (forwarded o z) (rw (o.is_50, e, z)) (λ m i. rw (single_run, o.is_50, e)))
          | Does.replies n y o at ↦
              let made = made_reply (answer S f) y in
              by_option (neighbour S f)
              (λ e. stops (rw (n, made, e)) (λ m i. rw (single_run, n, y, e)))
              (λ T e. goes T reply e (replied o (at (fit S j).edition_1)) (rw (n, made, e)) (λ m i. rw (single_run, n, y, e)))
        ]

    -- the plain run is document 01's run
    pub single : (m i n : ℕ) (S : Settings) → switch_named switches n ≡ Some S → (kind : Kind) (f : List ℕ)
        → run_from m i switches clock n kind f [] ≡ single_run m i switches clock S kind f
    unfolding single_run
    single zero i n S e kind f = rw run_none
    single (suc m) i n S e kind f =
        elim (turn S (named_member switches n S e) kind f) [
          | stops z q ↦ rw (run_over switches clock m i n kind f [] S e z, q m i)
          | goes T k t w z q ↦
              rw (
                run_on switches clock m i n kind f [] S e (answer S f).via k (sent S f) [] z,
                q m i,
                single m (suc i) (answer S f).via T t k (sent S f),
              )
        ]

    further : {S T : Settings} {f : List ℕ} {c : ℕ} → Memᴰ S switches → neighbour S f ≡ Some T → Forwarded S f (answer S f)
        → Way (egress_received f) T (hop_received (sent S f)) c → Way (egress_received f) S (hop_received f) (suc c)
    further j n o (unanswered q) = unanswered (omega arith)
    further j n o (answered k a q c) = answered (suc k) (on j o.transit (o.goes switches ∙ n) a) (omega arith) (omega arith)

    holds : (m i : ℕ) (S : Settings) (kind : Kind) (f : List ℕ) → Memᴰ S switches → Holds S f (run m i S kind f)
    unfolding single_run replies_in
    holds zero i S kind f j = record { way = unanswered (omega arith); few = omega arith }
    holds (suc m) i S kind f j =
        let made = made_few (does_make (doing S j f)) in
        elim (turn S j kind f) [
          | stops z q ↦ rw (q m i) (record { way = unanswered (omega arith); few = omega (arith, made) })
          | goes T k n w z q ↦
              rw (q m i)
              (elim w [
                | forwarded o none_made ↦
                    let h = holds m (suc i) T k (sent S f) (named_member switches (answer S f).via T n) in
                    record { way = further j n o (rw o.same_egress at h.way); few = omega (arith, ap length none_made, h.few) }
                | replied o at ↦
                    -- the reply's way, and those that arise on it, are those of the plain run
                    let plain = runs switches clock six (λ U l. (fit U l).nickname_fits) m (suc i) (answer S f).via k (sent S f) [] Prim.tt in
                    let most = reply_most _ _ (rw (single m (suc i) (answer S f).via T n k (sent S f)) at plain) o.is_reply in
                    record { way = answered 1 (here j at) o.hops_left (omega arith); few = omega (arith, made) }
              ])
        ]

    -- the number of handlings, however many are looked at
    pub single_count : (m i : ℕ) (S : Settings) (kind : Kind) (f : List ℕ) → Memᴰ S switches
        → length (single_run m i switches clock S kind f) ≤ 64 + min (length switches) (hop_received f)
    single_count m i S kind f j =
        elim (holds m i S kind f j).way [
          | unanswered q ↦ omega (arith, hop_most f)
          | answered k a q c ↦ omega (arith, arrives_le switches (ours (egress_received f)) (towards switches (egress_received f)) a)
        ]

    pub one_reply : (m i : ℕ) (S : Settings) (kind : Kind) (f : List ℕ) → Memᴰ S switches → replies_in (single_run m i switches clock S kind f) ≤ 1
    one_reply m i S kind f j = (holds m i S kind f j).few
