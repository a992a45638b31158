-- From what was read to the run, and from the run to the outcome, by the laws of descriptions, runs and the demand.
use Rattle.std.specs.Prelude.{if◌then◌else◌, Option, Some, None}
use mathlib.Core.Path.{◌≡◌, refl, sym, ap, ◌∙◌}
use mathlib.Core.List.Memᴰ
use mathlib.Core.List.{List, [], ◌∷◌, Memᴰ}
use mathlib.Core.Logic.{inl, inr}
use mathlib.Core.Bool.{Bool, true, false}
use Prim.Native.Nat.{ℕ, zero, suc, ◌+◌, ◌-◌, ◌*◌, ◌/◌, ◌<◌, ◌≤◌}
use native.Mathlib.Nat.{lt_of_le_of_lt}
use native.Mathlib.Omega.{arith}
use borrow.Author.Rules.{rules}
use borrow.Author.Tests.{le-leb, leb-true}
use lib.Dec.{leb}
use lib.Seq.{length-take-le}
use lib.ListN.{length, take, drop, replicate, length-take, length-drop, length-replicate}
use Rattle.rules.specs as rules
use rules.{Octets.be16, Octets.part, Demand.replies_in, Demand.single_run}
use rules.Settings.{Settings, Ways, ways_of}
use rules.Campus.{Described, switch_named, original, run_from, handlings_most, plain_run, clock_of, some_edition2, trace_needed, refused, accepted, described, refusal}
use rules.Campus.{campus, trace_after, trace_least}
use Rattle.rules.proofs as rule_laws
use rule_laws.{TestLaws.by_test, OctetLaws.put_none, RunLaws.named_nickname, RunLaws.few_replies, RunLaws.named_member, StepLaws.hop_most}
use rule_laws.DescriptionLaws.{Accepted, accepted_good}
use rule_laws.OutcomeLaws.{campus_short, campus_refused, campus_needed, campus_accepted}
use rule_laws.DemandLaws.{plain_run_lem, plain_most, plain_room, demand}
use rule_laws.AlikeLaws.{Both, Same, run_alike}
use rule_laws.SingleLaws.{Draft, edition_1_all, single, one_reply}
use Rattle.campus.specs
use rules.declared.Refusal.{Refusal}
use Rattle.rules.specs.Answer.{code_of}
use specs.Places.{between, clock_from, entry_value, described_by}
use specs.Stores.{switches_in, SoundAt, Sound, words_for, Accepts}
use specs.Switches.{switch_at, all_of, number_of, IsStarted, IsSound}
use specs.declared.switches.Switches.{Switches}
use specs.Steps.{needed_by, Ran, run_of, RunReady, EntryReady, states_of}
use specs.{Queue.LoopReady, Done.CampusDone}
use Rattle.campus.proofs
use proofs.StoresLaws.{lent, stores_sound, stores_starts, named_none, named_some, named_same, edition_same}
use proofs.{RunLaws.nickname_is, RunLaws.nickname_small, RunLaws.trace_none, ReadLaws.between_there}

-- the clock's octets
clock_is : (s : List ℕ) (clock : Option ℕ) (l : List Settings) (place : ℕ) → clock_of (described_by s l clock place) ≡ clock_from s clock
unfolding clock_of
clock_is s None l place = refl
clock_is s (Some at) l place = refl

module _ (s : List ℕ) (clock : Option ℕ) (place : ℕ) (is : clock ≡ Some place) where
  pub clock_within : length (clock_from s clock) ≡ 6 → place + 6 ≤ length s
  clock_within six =
      let there : length (part s place 6) ≡ 6 = rw is at six in
      omega (arith, simp (length-take, length-drop) at there)

  pub clock_copied : (c : List ℕ) → c ≡ take (place + 6 - place) (drop place s) → c ≡ clock_from s clock
  clock_copied c e =
      let six : place + 6 - place ≡ 6 = omega arith in
      rw is (rw six at e)

pub ruleset clock_of_laws = (rules, clock_within, clock_copied, lt_of_le_of_lt)

-- the octets from the third on
between_drop : (v : List ℕ) → between v 2 (length v) ≡ drop 2 v
unfolding between
between_drop [] = refl
between_drop (x ∷ []) = refl
between_drop (x ∷ y ∷ l) = sym (between_there (x ∷ y ∷ l) 2 (length (x ∷ y ∷ l)) (omega arith) (omega arith)) ∙ lent (x ∷ y ∷ l) 2

plain_none : (d : Described) → d.entry ≡ None → plain_run d ≡ []
unfolding plain_run
plain_none d e = rw (plain_run, e)

states_so : (s : List ℕ) (d : Described) → described s ≡ accepted d → states_of s ≡ plain_run d
unfolding states_of
states_so s d e = rw (states_of, e)

-- two options alike
both_none : (o : Option Settings) → Both o None → o ≡ None
both_none None b = refl
both_none (Some S) b = absurd b

both_some : (o : Option Settings) (T : Settings) → Both o (Some T) → (S : Settings) × (o ≡ Some S) × (ways_of S ≡ ways_of T)
both_some None T b = absurd b
both_some (Some S) T b = (S, refl, b)

-- the stores that were read
accepts_sound : {s w starts : List ℕ} {n : ℕ} {clock : Option ℕ} {place : ℕ} → Accepts s w starts n clock place → Sound w starts n
accepts_sound {w = w} {starts} {n} a = stores_sound w starts a.switches a.stores n a.count a.span a.few

-- 16 at most
accepts_few : {s w starts : List ℕ} {n : ℕ} {clock : Option ℕ} {place : ℕ} → Accepts s w starts n clock place → n ≤ 16
accepts_few {s} {clock = clock} {place} a = omega (arith, a.count, (accepted_good s (described_by s a.switches clock place) a.is).few_switches)

-- the stores that the first starts are those of
accepts_front : {s w starts : List ℕ} {n : ℕ} {clock : Option ℕ} {place : ℕ} → Accepts s w starts n clock place
    → Accepts s w (take n starts) (length (take n starts)) clock place
accepts_front {w = w} {starts} {n} a =
    let long : length (take n starts) ≡ n = length-take-le n starts a.few in
    record {
      switches = a.switches;
      is = a.is;
      stores = stores_starts w starts n a.switches (omega (arith, a.count)) a.stores;
      count = a.count ∙ sym long;
      few = omega arith;
      span = a.span;
      entry_in = a.entry_in;
    }

-- and those that are run
run_sound : {s : List ℕ} {sw : Switches} {clock : Option ℕ} {place : ℕ} → Accepts s sw.words.now sw.starts.now (length sw.starts.now) clock place
    → IsSound sw
run_sound a =
    let s = accepts_sound a in
    record { started = s.started; each = s.each; few = accepts_few a }

module _ {s : List ℕ} {sw : Switches} {clock : Option ℕ} {place : ℕ} {trace : List ℕ} (ready : RunReady s sw clock place trace) where
  pub run_started : IsStarted sw
  run_started = (run_sound {sw = sw} ready.read).started

  -- where the entry switch is
  module _ (v : List ℕ) (ev : v ≡ entry_value s place) (b : ℕ) (eb : b ≡ be16 v 0) (found : Option ℕ) (ef : found ≡ number_of sw b) where
    abbrev l : List Settings
    l = ready.read.switches

    alike : Both (switch_named l b) (switch_named (all_of sw) b)
    alike = named_same sw.words.now sw.starts.now l ready.read.stores (length sw.starts.now) ready.read.count b

    pub run_unknown : found ≡ None → Ran (states_of s) trace trace 0
    run_unknown e =
        let none_named = both_none (switch_named l b) (rw (named_none sw.words.now sw.starts.now (length sw.starts.now) b found ef e) at alike) in
        let none_run = states_so s _ ready.read.is ∙ plain_none (described_by s l clock place) (rw (← ev, ← eb) none_named) in
        rw none_run (record { counted = refl; traced = rw trace_none (sym (put_none trace 0)) })

    pub entry_ready : (first : ℕ) → found ≡ Some first → EntryReady s sw clock place first v trace
    entry_ready first e =
        let there = named_some sw.words.now sw.starts.now (length sw.starts.now) b found ef first e in
        let its = both_some (switch_named l b) (switch_at sw first) (rw there.1 at alike) in
        let entered : switch_named l (be16 v 0) ≡ Some its.0 = rw (← eb) its.1 in
        let named = rw eb at there.1 in
        search

pub ruleset run_laws = (rules, run_started, run_unknown, entry_ready)

-- every nickname has two octets
all_small : (w starts : List ℕ) (n : ℕ) → ((i : ℕ) → i < n → SoundAt w starts i) → (S : Settings) → Memᴰ S (switches_in w starts n)
    → S.nickname < 65536
unfolding switches_in
all_small w starts zero each S j = absurd (Memᴰ.not-nil j)
all_small w starts (suc n) each S j =
    let last = each n (omega arith) in
    elim (Memᴰ.cases_cons j) [
      | inl e ↦ rw (e, ← nickname_is last) (nickname_small last)
      | inr k ↦ all_small w starts n (λ i h. each i (omega arith)) S k
    ]

-- the run at its entry switch
module _ {s : List ℕ} {sw : Switches} {clock : Option ℕ} {place first : ℕ} {v trace : List ℕ} (at : EntryReady s sw clock place first v trace) where
  abbrev m : List Settings
  m = at.ready.read.switches

  abbrev d : Described
  d = described_by s m clock place

  good : Accepted d
  good = accepted_good s d at.ready.read.is

  pub clock_six : length (clock_from s clock) ≡ 6
  clock_six = rw (← clock_is s clock m place) good.six_clock

  module _ (clock' : List ℕ) (ec : clock' ≡ clock_from s clock) (frame : List ℕ) (ef : frame ≡ between v 2 (length v)) where
    abbrev all : List Settings
    all = all_of sw

    abbrev entry : Settings
    entry = switch_at sw first

    frame_is : frame ≡ d.frame
    frame_is = ef ∙ between_drop v ∙ ap (drop 2) at.value

    plain : plain_run d ≡ run_from handlings_most 1 m clock' entry.nickname original frame []
    plain =
        rw (ec, ← clock_is s clock m place, frame_is, ← ap (λ (x : Ways). x.nickname) at.same)
        (plain_run_lem d at.entry (rw (← at.value) at.entered))

    same : Same (plain_run d) (run_of sw first clock' frame)
    same =
        rw plain
        (run_alike m all (named_same sw.words.now sw.starts.now m at.ready.read.stores (length sw.starts.now) at.ready.read.count) clock'
        handlings_most 1 entry.nickname original frame [])

    sound : IsSound sw
    sound = run_sound {sw = sw} at.ready.read

    six : length clock' ≡ 6
    six = rw ec clock_six

    named : switch_named all entry.nickname ≡ Some entry
    named = ap (switch_named all) (named_nickname all (be16 v 0) entry at.named) ∙ at.named

    fit : (S : Settings) → Memᴰ S all → S.nickname < 65536
    fit = all_small sw.words.now sw.starts.now (length sw.starts.now) sound.each

    loop_ready : (few : ℕ) → replies_in (run_of sw first clock' frame) ≤ few → (waiting : List ℕ) → 579 * few ≤ length waiting
        → LoopReady sw first clock' frame waiting trace
    loop_ready few h waiting enough =
        let short : length frame ≤ 2048 = rw frame_is good.short_frame in
        let count = same.count in
        let most = plain_most d good in
        let room = plain_room d good in
        search (arith, sound, named, six)

    module _ (two : Bool) (is : two ≡ some_edition2 (all_of sw)) where
      pub loop_2 : two ≡ true → LoopReady sw first clock' frame (replicate 36477 0) trace
      loop_2 t =
          loop_ready 63 (omega (arith, few_replies all clock' six fit handlings_most 1 entry.nickname original frame, hop_most frame))
          (replicate 36477 0) (omega (arith, length-replicate {A = ℕ} 36477 0))

      pub loop_1 : two ≡ false → LoopReady sw first clock' frame (replicate 579 0) trace
      loop_1 t =
          loop_ready 1 (rw one (one_reply all clock' six draft handlings_most 1 entry original frame (named_member all entry.nickname entry named)))
          (replicate 579 0) (omega (arith, length-replicate {A = ℕ} 579 0))
        where
          draft : (S : Settings) → Memᴰ S all → Draft S
          draft S j = record { nickname_fits = fit S j; edition_1 = edition_1_all all (sym is ∙ t) S j }

          one : run_of sw first clock' frame ≡ single_run handlings_most 1 all clock' entry original frame
          one = single all clock' six draft handlings_most 1 entry.nickname entry named original frame

    pub run_plain : {trace' : List ℕ} {r : ℕ} → Ran (run_of sw first clock' frame) trace trace' r → Ran (states_of s) trace trace' r
    run_plain ran =
        rw (states_so s d at.ready.read.is)
        (record { counted = ran.counted ∙ sym same.count; traced = rw same.trace ran.traced })

pub ruleset run_at_laws = (rules, clock_six, loop_2, loop_1, run_plain)

-- the outcome, by the room and the description
module _ (file trace : List ℕ) where
  done_so : {trace' : List ℕ} {code count : ℕ} → code ≡ (campus file (length trace)).code → count ≡ (campus file (length trace)).count
      → trace' ≡ trace_after trace (campus file (length trace)) → CampusDone file trace trace' code count
  done_so {trace'} {code} {count} c n t =
      let demanded = demand file trace trace' code count c n t in
      search

  refusal_done : (code : ℕ) → campus file (length trace) ≡ refusal code → CampusDone file trace trace code 0
  refusal_done code o = done_so (rw o) (rw o) (rw o (sym (put_none trace 0)))

  pub done_short : length trace < 640 → CampusDone file trace trace 49 0
  done_short h = refusal_done 49 (campus_short file (length trace) h)

  module _ (h : 640 ≤ length trace) where
    pub done_refused : (e : Refusal) → refused (code_of e) ≡ described file → CampusDone file trace trace (code_of e) 0
    done_refused e r = refusal_done (code_of e) (campus_refused file (length trace) h (code_of e) (sym r))

    module _ (w starts : List ℕ) (n : ℕ) (clock : Option ℕ) (entry : ℕ) (accepts : Accepts file w starts n clock entry) where
      pub read_count : n ≤ 16
      read_count = accepts_few accepts

      module _ (sw : Switches) (words : sw.words.now ≡ w) (there : sw.starts.now ≡ take n starts) where
        its_read : Accepts file sw.words.now sw.starts.now (length sw.starts.now) clock entry
        its_read = rw (words, there) (accepts_front accepts)

        pub read_sound : IsSound sw
        read_sound = run_sound its_read

        abbrev its : Described
        its = described_by file its_read.switches clock entry

        module _ (two : Bool) (e : two ≡ some_edition2 (all_of sw)) (room : ℕ) (is : room ≡ needed_by two) where
          needed_so : trace_needed its ≡ room
          unfolding trace_needed
          needed_so =
              rw (is, edition_same sw.words.now sw.starts.now its_read.switches its_read.stores (length sw.starts.now) its_read.count ∙ sym e)
              (elim two as (λ (k : Bool). (if k then 32768 else trace_least) ≡ needed_by k) [ true ↦ refl | false ↦ refl ])

          pub done_needed : length trace < room → CampusDone file trace trace 49 0
          done_needed k = refusal_done 49 (campus_needed file (length trace) h its its_read.is (omega (arith, needed_so)))

          pub run_ready : room ≤ length trace → RunReady file sw clock entry trace
          run_ready k = record { read = its_read; room = omega (arith, needed_so) }

          pub done_run : room ≤ length trace → {trace' : List ℕ} {count : ℕ} → Ran (states_of file) trace trace' count
              → CampusDone file trace trace' 0 count
          done_run k {trace'} {count} ran =
              let o = campus_accepted file (length trace) its its_read.is (omega (arith, needed_so)) in
              let p = states_so file its its_read.is in
              done_so (rw o) (rw o (rw p at ran.counted)) (rw o (rw p at ran.traced))

pub ruleset run_in_laws = (rules, done_refused, read_count, read_sound, done_needed, run_ready, done_run)

-- words enough
module _ (octets : ℕ) where
  words_few : (n : ℕ) → octets ≤ 5808 → 4 * octets / 11 + 6 ≤ n → words_for octets ≤ n
  words_few n h e = rw (le-leb octets 5808 h) e

  pub words_80 : octets ≤ 203 → words_for octets ≤ 80
  words_80 h = words_few 80 (omega arith) (omega arith)

  pub words_256 : octets ≤ 687 → words_for octets ≤ 256
  words_256 h = words_few 256 (omega arith) (omega arith)

  pub words_512 : octets ≤ 1391 → words_for octets ≤ 512
  words_512 h = words_few 512 (omega arith) (omega arith)

  pub words_1024 : octets ≤ 2799 → words_for octets ≤ 1024
  words_1024 h = words_few 1024 (omega arith) (omega arith)

  pub words_all : words_for octets ≤ 2118
  words_all = by_test (leb octets 5808) (λ t. rw t (omega (arith, leb-true octets 5808 t))) (λ t. rw t (omega arith))

pub ruleset campus_run_laws = (rules, done_short, words_80, words_256, words_512, words_1024, words_all)
