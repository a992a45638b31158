-- Laws of the plain run, whatever the editions: it has at most 65h + 1 handlings, so it ends; at most h replies arise and nothing answers one; every
-- frame fits, and at most 63 replies wait, of 576 octets each at most. By induction on a run as it goes: a handling costs one, an original of
-- hop count x has 65x + 1 to spend, a reply x + 1, and each reply that waits 64.
use Rattle.std.specs.Prelude.{Some, None}
use mathlib.Core.Path.{◌≡◌, refl, ap, ◌∙◌}
use mathlib.Core.List.Memᴰ
use mathlib.Core.List.{List, [], ◌∷◌, ◌++◌, Memᴰ}
use Prim.Native.Nat.{ℕ, zero, suc, ◌+◌, ◌*◌, ◌<◌, ◌≤◌, max}
use native.Mathlib.Nat.{not-suc-le-zero}
use native.Mathlib.Omega.{arith}
use borrow.Author.Tests.{eqb-true}
use lib.Dec.{eqb}
use lib.ListN.{length, length-append}
use specs.{Settings.Settings, Settings.ways_of, Answer.Handled, Demand.replies_in}
use specs.Handling.{handling, frame_most, beside_least}
use specs.Campus.{switch_named, Kind, reply, State, Waiting, replies_made, in_campus, staying, waiting_after, Next, over, next, sent_on, first_waiting, next_after}
use specs.Campus.{run_from, handlings_most, hop_received, entry_octets, trace_octets}
use proofs.TestLaws.{apart, by_test, by_option, and_left, each_of}
use proofs.NextLaws.{next_on, next_waiting}
use proofs.HandledLaws.{Bounded, handling_bounded}
use proofs.StepLaws.{hop_most, IsReply, Forwarded, Made, nothing, one, does, does_forward, does_make}
use Rattle.rules.specs
use Rattle.rules.proofs

-- a switch found by its nickname is one of the campus, and has it
pub named : (switches : List Settings) (n : ℕ) (S : Settings) → switch_named switches n ≡ Some S → Memᴰ S switches × (S.nickname ≡ n)
unfolding switch_named
named [] n S e = apart cc
named (T ∷ switches) n S e =
    by_test (eqb T.nickname n)
    (λ c.
    let same : Some T ≡ Some S = (rw (switch_named, c) at e) in
    let is : S ≡ T = cc in
    rw is (Memᴰ.head refl, eqb-true T.nickname n c))
    (λ c. let later = named switches n S (rw (switch_named, c) at e) in (Memᴰ.tail later.0, later.1))

pub named_member : (switches : List Settings) (n : ℕ) (S : Settings) → switch_named switches n ≡ Some S → Memᴰ S switches
named_member switches n S e = (named switches n S e).0

pub named_nickname : (switches : List Settings) (n : ℕ) (S : Settings) → switch_named switches n ≡ Some S → S.nickname ≡ n
named_nickname switches n S e = (named switches n S e).1

-- how many replies a handling makes: one at most, none to a reply, and none where no hop is left
module _ {S : Settings} {f : List ℕ} where
  pub made_few : {l : List Waiting} → Made S f l → (length l ≤ 1) × (length l ≤ hop_received f)
  made_few nothing = omega arith
  made_few (one w o) = omega arith

  pub made_mute : {l : List Waiting} → Made S f l → IsReply f → l ≡ []
  made_mute nothing y = refl
  made_mute (one w o) y = absurd (o.not_a_reply y)

pub no_replies : replies_in [] ≡ 0
unfolding replies_in
no_replies = refl

pub replies_on : (s : State) (states : List State) → replies_in (s ∷ states) ≡ length (replies_made s.answer) + replies_in states
unfolding replies_in
replies_on s states = refl

-- those that wait are replies, of at most 576 octets
abbrev pub Replies : List Waiting → Type 0
Replies [] = Unit {0}
Replies (w ∷ q) = IsReply w.frame × (length w.frame ≤ beside_least) × Replies q

joined : (q l : List Waiting) → Replies q → Replies l → Replies (q ++ l)
joined [] l a b = b
joined (w ∷ q) l a b = (a.0, a.1, joined q l a.2 b)

-- what holds of every state: its frame fits, its answer's number is under 64 and what it writes fits, and nothing answers a reply
pub record Stands (s : State) : Type 0 where
  pub frame_fits : length s.frame ≤ frame_most
  pub bounded : Bounded s.answer
  pub unanswered : s.kind ≡ reply → replies_made s.answer ≡ []

-- what is made and stays in the campus
stays : (switches : List Settings) {S : Settings} {f : List ℕ} {l : List Waiting} → Made S f l
    → Replies (staying switches l) × (length (staying switches l) ≤ length l)
unfolding staying
stays switches nothing = (Prim.tt, omega arith)
stays switches (one w o) =
    by_test (in_campus switches w.towards)
    (λ e. rw e ((o.is_reply, o.short, Prim.tt), omega arith))
    (λ e. rw e (Prim.tt, omega arith))

module _ (switches : List Settings) (clock : List ℕ) where
  abbrev pub run : ℕ → ℕ → ℕ → Kind → List ℕ → List Waiting → List State
  run m i n kind f q = run_from m i switches clock n kind f q

  abbrev pub answer : Settings → List ℕ → Handled
  answer S f = handling (ways_of S) clock f

  abbrev pub state : ℕ → Settings → Kind → List ℕ → State
  state i S kind f = record { handling_no = i; switch = S; kind = kind; frame = f; answer = handling (ways_of S) clock f }

  -- the replies that wait after a handling
  abbrev pub queue : Settings → List ℕ → List Waiting → List Waiting
  queue S f q = waiting_after switches q (handling (ways_of S) clock f)

  -- the handlings after one, by what is next
  unfoldable pub rest : ℕ → ℕ → Next → List State
  rest m i x = elim x [ over ↦ [] | next n kind f q ↦ run_from m (suc i) switches clock n kind f q ]

  -- what a run looks like, by its first handling
  pub run_none : (i n : ℕ) (kind : Kind) (f : List ℕ) (q : List Waiting) → run zero i n kind f q ≡ []
  unfolding run_from
  run_none i n kind f q = refl

  module _ (m i n : ℕ) (kind : Kind) (f : List ℕ) (q : List Waiting) where
    pub run_unknown : switch_named switches n ≡ None → run (suc m) i n kind f q ≡ []
    unfolding run_from
    run_unknown e = rw (run_from, e)

    module _ (S : Settings) (e : switch_named switches n ≡ Some S) where
      pub run_step : run (suc m) i n kind f q ≡ state i S kind f ∷ rest m i (next_after switches kind q (answer S f))
      unfolding run_from rest
      run_step = rw (run_from, e)

      pub run_over : next_after switches kind q (answer S f) ≡ over → run (suc m) i n kind f q ≡ state i S kind f ∷ []
      unfolding rest
      run_over z = run_step ∙ ap (λ (x : Next). state i S kind f ∷ rest m i x) z

      pub run_on : (n' : ℕ) (kind' : Kind) (g : List ℕ) (q' : List Waiting) → next_after switches kind q (answer S f) ≡ next n' kind' g q'
          → run (suc m) i n kind f q ≡ state i S kind f ∷ run m (suc i) n' kind' g q'
      unfolding rest
      run_on n' kind' g q' z = run_step ∙ ap (λ (x : Next). state i S kind f ∷ rest m i x) z

      pub run_some : 1 ≤ length (run (suc m) i n kind f q)
      run_some = rw run_step (omega arith)

  -- a run of fewer handlings than were looked at has ended: looking at more changes nothing
  rest_ended : (m more i : ℕ) (x : Next) → length (rest m i x) < m → rest (m + more) i x ≡ rest m i x
  unfolding rest
  rest_ended zero more i x lt = absurd (not-suc-le-zero lt)
  rest_ended (suc m) more i over lt = refl
  rest_ended (suc m) more i (next n kind f q) lt =
      let more_by_one : suc m + more ≡ suc (m + more) = omega arith in
      by_option (switch_named switches n)
      (λ e. simp (more_by_one, run_unknown))
      (λ S e.
      let step = run_step m (suc i) n kind f q S e in
      let later = rest_ended m more (suc i) (next_after switches kind q (answer S f)) (omega (arith, lt, ap length step)) in
      rw (more_by_one, run_step (m + more) (suc i) n kind f q S e, step, later))

  -- one handling, by how many replies it makes and leaves waiting
  pub record Step (S : Settings) (f : List ℕ) (q : List Waiting) : Type 0 where
    pub few : (length (replies_made (answer S f)) ≤ 1) × (length (replies_made (answer S f)) ≤ hop_received f)
    pub queued : length (queue S f q) ≤ length q + length (replies_made (answer S f))
    pub mute : IsReply f → replies_made (answer S f) ≡ []

  -- a run as it goes: no handling; one after which the frame goes on, or nothing does, or the reply that has waited longest
  pub data Run : Kind → List ℕ → List Waiting → List State → Type 0 where
    stopped : {kind : Kind} {f : List ℕ} {q : List Waiting} → Run kind f q []
    onward : {i : ℕ} {S : Settings} {kind : Kind} {f : List ℕ} {q : List Waiting} {states : List State} → Step S f q → Forwarded S f (answer S f)
        → Run kind (answer S f).octets (queue S f q) states → Run kind f q (state i S kind f ∷ states)
    ended : {i : ℕ} {S : Settings} {kind : Kind} {f : List ℕ} {q : List Waiting} → Step S f q → Run kind f q (state i S kind f ∷ [])
    drained : {i : ℕ} {S : Settings} {kind : Kind} {f : List ℕ} {q r : List Waiting} {g : List ℕ} {states : List State} → Step S f q
        → length (queue S f q) ≡ suc (length r) → IsReply g → length g ≤ beside_least → Run reply g r states
        → Run kind f q (state i S kind f ∷ states)

  -- how many handlings, however many are looked at, and how many replies: what a reply and those behind it may take, and what an original may
  pub reply_most : {kind : Kind} {f : List ℕ} {q : List Waiting} {states : List State} → Run kind f q states → IsReply f
      → (length states ≤ suc (hop_received f) + 64 * length q) × (replies_in states ≡ 0)
  unfolding replies_in
  reply_most stopped y = omega arith
  reply_most (onward t o r) y = omega (arith, ap length (t.mute y), reply_most r (o.reply_kept y))
  reply_most (ended t) y = omega (arith, ap length (t.mute y))
  reply_most (drained {g = g} t e z k r) y = omega (arith, ap length (t.mute y), reply_most r z, hop_most g)

  pub run_most : {kind : Kind} {f : List ℕ} {q : List Waiting} {states : List State} → Run kind f q states
      → (length states ≤ 65 * hop_received f + 1 + 64 * length q) × (replies_in states ≤ hop_received f)
  unfolding replies_in
  run_most stopped = omega arith
  run_most (onward t o r) = omega (arith, run_most r)
  run_most (ended t) = omega arith
  run_most (drained {g = g} t e z k r) = omega (arith, reply_most r z, hop_most g)

  -- how many wait at most: no more than arise
  pub longest : {kind : Kind} {f : List ℕ} {q : List Waiting} {states : List State} → Run kind f q states → ℕ
  longest stopped = 0
  longest (onward {S = S} {f = f} {q = q} t o r) = max (length (queue S f q)) (longest r)
  longest (ended {S = S} {f = f} {q = q} t) = length (queue S f q)
  longest (drained {S = S} {f = f} {q = q} t e z k r) = max (length (queue S f q)) (longest r)

  longest_made : {kind : Kind} {f : List ℕ} {q : List Waiting} {states : List State} (r : Run kind f q states)
      → longest r ≤ length q + replies_in states
  unfolding longest replies_in
  longest_made stopped = omega arith
  longest_made (onward t o r) = omega (arith, longest_made r)
  longest_made (ended t) = omega arith
  longest_made (drained t e z k r) = omega (arith, longest_made r)

  module _ (six : length clock ≡ 6) (fit : (S : Settings) → Memᴰ S switches → S.nickname < 65536) where
    pub runs : (m i n : ℕ) (kind : Kind) (f : List ℕ) (q : List Waiting) → Replies q → Run kind f q (run m i n kind f q)
    unfolding rest first_waiting sent_on
    runs zero i n kind f q a = rw run_none stopped
    runs (suc m) i n kind f q a =
        by_option (switch_named switches n) (λ e. rw run_unknown stopped) (λ S e.
        let d = does S clock f (fit S (named_member switches n S e)) six in
        let made = does_make d in
        let b = joined q _ a (stays switches made).0 in
        let step : Step S f q = record { few = made_few made; queued = rw length-append (omega (arith, (stays switches made).1)); mute = made_mute made } in
        rw (run_step m i n kind f q S e)
        (by_test (sent_on switches (answer S f))
        (λ t.
        rw (next_on switches (answer S f) kind q t)
        (onward step (does_forward d (and_left _ (in_campus switches (answer S f).via) t)) (runs m (suc i) _ kind _ (queue S f q) b)))
        (λ t.
        rw (next_waiting switches (answer S f) kind q t)
        (elim (queue S f q) as (λ l. queue S f q ≡ l → Replies l → Run kind f q (state i S kind f ∷ rest m i (first_waiting l))) [
          | [] ↦ λ e b. ended step
          | w ∷ r ↦ λ e b. drained step (ap length e) b.0 b.1 (runs m (suc i) w.towards reply w.frame r b.2)
        ] refl b))))

    pub run_count : (m i n : ℕ) (kind : Kind) (f : List ℕ) → length (run_from m i switches clock n kind f []) ≤ 65 * hop_received f + 1
    run_count m i n kind f = omega (arith, run_most (runs m i n kind f [] Prim.tt))

    pub run_whole : (more i n : ℕ) (kind : Kind) (f : List ℕ)
        → run_from (handlings_most + more) (suc i) switches clock n kind f [] ≡ run_from handlings_most (suc i) switches clock n kind f []
    unfolding rest
    run_whole more i n kind f = rest_ended handlings_most more i (next n kind f []) (omega (arith, run_count handlings_most (suc i) n kind f, hop_most f))

    pub few_replies : (m i n : ℕ) (kind : Kind) (f : List ℕ) → replies_in (run_from m i switches clock n kind f []) ≤ hop_received f
    few_replies m i n kind f = (run_most (runs m i n kind f [] Prim.tt)).1

    pub queue_most : (m i n : ℕ) (kind : Kind) (f : List ℕ) → longest (runs m i n kind f [] Prim.tt) ≤ 63
    queue_most m i n kind f = omega (arith, longest_made (runs m i n kind f [] Prim.tt), few_replies m i n kind f, hop_most f)

    stands : {i : ℕ} {S : Settings} {kind : Kind} {f : List ℕ} {q : List Waiting} → Step S f q → length f ≤ frame_most → (kind ≡ reply → IsReply f)
        → Stands (state i S kind f)
    stands {S = S} {f = f} t k y = record { frame_fits = k; bounded = handling_bounded (ways_of S) clock f six k; unanswered = λ e. t.mute (y e) }

    pub every : {kind : Kind} {f : List ℕ} {q : List Waiting} {states : List State} → Run kind f q states → length f ≤ frame_most
        → (kind ≡ reply → IsReply f) → (s : State) → Memᴰ s states → Stands s
    every stopped k y = λ s w. absurd (Memᴰ.not-nil w)
    every (onward t o r) k y = each_of Stands (stands t k y) (every r (handling_bounded _ clock _ six k).fits (λ e. o.reply_kept (y e)))
    every (ended t) k y = each_of Stands (stands t k y) (λ s w. absurd (Memᴰ.not-nil w))
    every (drained t e z l r) k y = each_of Stands (stands t k y) (every r (omega arith) (λ e. z))

-- the trace has eight octets for each state
pub length_trace : (states : List State) → length (trace_octets states) ≡ 8 * length states
unfolding trace_octets entry_octets
length_trace [] = refl
length_trace (s ∷ states) = let ih = length_trace states in omega arith
