-- Demand 3: a call that answers as `campus` says meets it, from the laws of descriptions, of runs and of the outcome.
use Rattle.std.specs.Prelude.{Some}
use mathlib.Core.Path.{◌≡◌, ◌∙◌}
use mathlib.Core.List.{List, [], Memᴰ}
use mathlib.Core.Bool.{false}
use Prim.Native.Nat.{ℕ, ◌+◌, ◌*◌, ◌<◌, ◌≤◌, min}
use native.Mathlib.Omega.{arith}
use lib.ListN.{length}
use specs.{Octets.put, Settings.Settings}
use specs.Campus.{Described, switch_named, accepted, described, State, clock_of, original, run_from, handlings_most, plain_run, hop_received, trace_octets}
use specs.Campus.{some_edition2, trace_needed, campus, trace_after}
use specs.Demand.{replies_in, replies_most, handlings_bound, single_run, Demand}
use proofs.{TestLaws.apart, TestLaws.by_test, OctetLaws.put_front, OutcomeLaws.campus_accepted}
use proofs.StepLaws.{hop_read, hop_unread, hop_most}
use proofs.RunLaws.{named, run_some, run_whole, Run, runs, run_most, Stands, every, length_trace}
use proofs.SingleLaws.{Draft, edition_1_all, single, single_count, one_reply}
use proofs.DescriptionLaws.{nickname_fits, Accepted, accepted_good}
use Rattle.rules.specs
use Rattle.rules.proofs

pub plain_run_lem : (d : Described) (S : Settings) → d.entry ≡ Some S
    → plain_run d ≡ run_from handlings_most 1 d.switches (clock_of d) S.nickname original d.frame []
unfolding plain_run clock_of
plain_run_lem d S e = rw (plain_run, e)

-- the plain run of what was accepted
module _ (d : Described) (a : Accepted d) where
  entry_named : Memᴰ a.entry d.switches × (switch_named d.switches a.entry.nickname ≡ Some a.entry)
  entry_named = let n = named d.switches a.named.0 a.entry a.named.1 in (n.0, cc (n.1, a.named.1))

  plain_fit : (S : Settings) → Memᴰ S d.switches → S.nickname < 65536
  plain_fit S j = nickname_fits S (a.good_switches S j)

  is : plain_run d ≡ run_from handlings_most 1 d.switches (clock_of d) a.entry.nickname original d.frame []
  is = plain_run_lem d a.entry a.entered

  run : Run d.switches (clock_of d) original d.frame [] (plain_run d)
  run = rw is (runs d.switches (clock_of d) a.six_clock plain_fit handlings_most 1 a.entry.nickname original d.frame [] Prim.tt)

  plain_stands : (s : State) → Memᴰ s (plain_run d) → Stands s
  plain_stands = every _ _ a.six_clock plain_fit run a.short_frame (λ e. apart cc)

  -- the number of handlings and of replies
  most_2 : (length (plain_run d) ≤ 65 * hop_received d.frame + 1) × (replies_in (plain_run d) ≤ hop_received d.frame)
  most_2 = omega (arith, run_most _ _ run)

  module _ (e : some_edition2 d.switches ≡ false) where
    draft : (S : Settings) → Memᴰ S d.switches → Draft S
    draft S j = record { nickname_fits = plain_fit S j; edition_1 = edition_1_all d.switches e S j }

    is_single : plain_run d ≡ single_run handlings_most 1 d.switches (clock_of d) a.entry original d.frame
    is_single = is ∙ single _ _ a.six_clock draft _ _ _ a.entry entry_named.1 _ _

    most_1 : (length (plain_run d) ≤ 64 + min (length d.switches) (hop_received d.frame)) × (replies_in (plain_run d) ≤ 1)
    most_1 = rw is_single (single_count _ _ a.six_clock draft _ _ _ _ _ entry_named.0, one_reply _ _ a.six_clock draft _ _ _ _ _ entry_named.0)

  plain_bounds : (length (plain_run d) ≤ handlings_bound d (hop_received d.frame)) × (replies_in (plain_run d) ≤ replies_most d (hop_received d.frame))
  unfolding handlings_bound replies_most
  plain_bounds = by_test (some_edition2 d.switches) (λ e. rw e most_2) (λ e. rw e (most_1 e))

  pub plain_some : 1 ≤ length (plain_run d)
  plain_some = rw is (run_some _ _ 4096 1 _ _ _ _ a.entry entry_named.1)

  plain_single : hop_received d.frame ≡ 0 → length (plain_run d) ≡ 1
  plain_single z = omega (arith, most_2.0, plain_some)

  -- so there are 4,096 handlings at most, and the room asked for is enough for their entries of eight octets
  pub plain_most : length (plain_run d) ≤ 4096
  plain_most = omega (arith, most_2.0, hop_most d.frame)

  pub plain_room : 8 * length (plain_run d) ≤ trace_needed d
  unfolding trace_needed
  plain_room =
      by_test (some_edition2 d.switches) (λ e. rw e (omega (arith, plain_most))) (λ e. rw e (omega (arith, most_1 e, a.few_switches)))

  pub plain_numbers : (s : State) → Memᴰ s (plain_run d) → s.answer.number < 64
  plain_numbers s w = (plain_stands s w).bounded.number_small

  accepted_demand : (trace trace' : List ℕ) (code count : ℕ) → code ≡ 0 → count ≡ length (plain_run d) → trace' ≡ put trace 0 (trace_octets (plain_run d))
      → Demand d trace trace' code count
  accepted_demand trace trace' code count c n t =
      record {
        from_one = a.some_switch;
        to_sixteen = a.few_switches;
        frame_short = a.short_frame;
        entry = a.entry;
        entry_known = entry_named.0;
        entered = a.entered;
        as_written = is_single;
        ends = λ more. rw is (run_whole _ _ a.six_clock plain_fit more 0 _ _ _);
        answers_0 = c;
        counts = n;
        traces = rw (n, ← length_trace (plain_run d)) (t ∙ put_front trace (trace_octets (plain_run d)));
        few_replies = plain_bounds.1;
        unanswered = λ s w. (plain_stands s w).unanswered;
        bound = λ h e z. rw (n, ← hop_read d.frame h e) plain_bounds.0;
        hop_0 = λ h e z. n ∙ plain_single (hop_read d.frame h e ∙ z);
        unreadable = λ number e. n ∙ plain_single (hop_unread d.frame number e);
      }

-- the call's answer and its trace, as `campus` says
module _ (file trace trace' : List ℕ) (code count : ℕ) where
  pub demand : code ≡ (campus file (length trace)).code → count ≡ (campus file (length trace)).count → trace' ≡ trace_after trace (campus file (length trace))
      → (d : Described) → described file ≡ accepted d → trace_needed d ≤ length trace → Demand d trace trace' code count
  demand c n t d is room =
      let o = campus_accepted file (length trace) d is room in
      accepted_demand d (accepted_good file d is) trace trace' code count (rw o at c) (rw o at n) (rw o at t)
