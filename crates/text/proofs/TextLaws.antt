-- The text as the code makes it is what the rules print: entry by entry, and by the outcome. By computation, and induction on the run.
--
use mathlib.Core.Path.{◌≡◌, refl, sym, ◌∙◌}
use mathlib.Core.List.{List, [], ◌∷◌, ◌++◌, append_assoc}
use Prim.Native.Nat.{ℕ, ◌*◌, ◌/◌, ◌%◌, ◌<◌, ◌≤◌}
use native.Mathlib.Omega.{arith}
use native.Mathlib.Nat.{zero-add}
use borrow.Author.Rules.{rules}
use borrow.Author.Tests.{leb-true, leb-false}
use lib.Dec.{leb}
use lib.ListN.{length, take, drop, replicate, length-replicate}
use lib.Seq.{length-take-le}
use Rattle.rules.specs as rules
use Rattle.rules.proofs.{TestLaws.by_test, OctetLaws.take_put, DescriptionLaws.accepted_good, OutcomeLaws.campus_refused}
use Rattle.rules.proofs.{OutcomeLaws.campus_needed, DemandLaws.plain_most, DemandLaws.plain_room}
use rules.Campus.{Described, some_edition2, trace_needed, Description, refused, accepted, described, State, plain_run, Kind, original, reply}
use rules.Campus.{hop_received, egress_received, kind_octet, entry_octets, trace_octets}
use rules.Text.{blank, line_feed, hex2, hex4, decimal, kind_letter, entry_text, entries_text, printed}
use Rattle.rules.proofs.TextLaws.{refused_ranged, printed_refused, printed_accepted, printed_most}
use Rattle.text.specs.Print.{PutAt, letter_of, line_of, lines_of, text_of, Printable, Written, TextDone, TextWhole}
use Rattle.campus.specs.Done.{CampusDone}
use Rattle.text.proofs.PrintLaws.{text_refused, text_handled}
use Rattle.octets.specs.Copy.{Wrote, fitting}
use Rattle.octets.proofs.Ends.{fits_all, copy_none, copied, wrote_long}

-- an entry's octets lose nothing that is printed
hex_octet : (n : ℕ) → hex2 (n % 256) ≡ hex2 n
hex_octet n =
    let high : n % 256 / 16 % 16 ≡ n / 16 % 16 = omega arith in
    let low : n % 256 % 16 ≡ n % 16 = omega arith in
    rw (high, low)

letter_is : (kind : Kind) → letter_of (kind_octet kind) ≡ kind_letter kind
unfolding letter_of
letter_is original = refl
letter_is reply = refl

joined : (d a b c e f : List ℕ) → d ++ a ++ b ++ c ++ e ++ f ≡ d ++ (a ++ b ++ c ++ e ++ f)
joined d a b c e f = simp append_assoc

line_entry : (s : State) (t : List ℕ) → line_of (entry_octets s ++ t) ≡ entry_text s
unfolding line_of entry_octets entry_text
line_entry s t =
    let n = s.switch.nickname in
    let e = egress_received s.frame in
    cc (
      hex_octet n,
      hex_octet (n / 256),
      hex_octet e,
      hex_octet (e / 256),
      letter_is s.kind,
      joined (decimal s.answer.number) (blank ∷ []) (hex2 (hop_received s.frame)) (blank ∷ []) (hex4 e) (line_feed ∷ []),
    )

drop_entry : (s : State) (t : List ℕ) → drop 8 (entry_octets s ++ t) ≡ t
unfolding entry_octets
drop_entry s t = refl

lines_entries : (states : List State) (t : List ℕ) → lines_of (length states) (trace_octets states ++ t) ≡ entries_text states
unfolding lines_of trace_octets entries_text
lines_entries [] t = refl
lines_entries (s ∷ states) t = rw (append_assoc (entry_octets s) (trace_octets states) t, line_entry, drop_entry, lines_entries states t)

-- a trace buffer of the size asked
pub record Enough (file trace : List ℕ) : Type 0 where
  pub least : 640 ≤ length trace
  pub asked : (d : Described) → described file ≡ accepted d → trace_needed d ≤ length trace

-- what is printed of the outcome
module _ {file trace₀ trace : List ℕ} {code count : ℕ} (done : CampusDone file trace₀ trace code count) (enough : Enough file trace₀)
    (long : length trace ≡ length trace₀) where
  record Prints : Type 0 where
    pub text : text_of code count trace ≡ printed file
    pub printable : Printable code count trace

  prints : Prints
  prints = go (described file) refl
    where
      go : (w : Description) → described file ≡ w → Prints
      go (refused x) e =
          let o = campus_refused file (length trace₀) enough.least x e in
          let k : code ≡ x = rw o at done.coded in
          let n : count ≡ 0 = rw o at done.counted in
          let r = refused_ranged file x e in
          record {
            text = sym (text_refused code count trace (omega arith)) ∙ rw k (sym (printed_refused file x e));
            printable = omega arith;
          }
      go (accepted d) e =
          let run : List State = plain_run d in
          let m = done.demanded d e (enough.asked d e) in
          let good = accepted_good file d e in
          let lines : lines_of count trace ≡ entries_text run = rw (m.traces, m.counts) (lines_entries run (drop (8 * length run) trace₀)) in
          record {
            text = sym (text_handled code count trace m.answers_0) ∙ rw (lines, m.counts, printed_accepted file d e) (simp append_assoc);
            printable = omega (arith, m.answers_0, m.counts, plain_most d good, plain_room d good, enough.asked d e);
          }

  pub printable_so : Printable code count trace
  printable_so = prints.printable

  pub text_done : (text text' : List ℕ) (written needed : ℕ) → Written (text_of code count trace) text text' written needed
      → TextDone file text text' written needed
  text_done text text' written needed w = rw prints.text at w

-- 32,768 octets are enough for any, and 640 where the answer is not 49
pub enough_2 : (file : List ℕ) → Enough file (replicate 32768 0)
unfolding trace_needed
enough_2 file =
    let long = length-replicate {A = ℕ} 32768 0 in
    record {
      least = omega arith;
      asked = λ d e. by_test (some_edition2 d.switches) (λ t. rw t (omega arith)) (λ f. rw f (omega arith));
    }

pub enough_1 : {file trace : List ℕ} {code count : ℕ} → CampusDone file (replicate 640 0) trace code count → (code ≡ 49 → ⊥)
    → Enough file (replicate 640 0)
enough_1 {file} done other =
    let room : ℕ = length {A = ℕ} (replicate 640 0) in
    let least : 640 ≤ room = omega (arith, length-replicate {A = ℕ} 640 0) in
    record {
      least = least;
      asked = λ d e.
          by_test (leb (trace_needed d) room) (λ t. leb-true (trace_needed d) room t) (λ f.
          absurd (other (rw (campus_needed file room least d e (leb-false (trace_needed d) room f)) at done.coded)));
    }

pub ruleset text_of_laws = (rules, printable_so, text_done, enough_2)

pub ruleset campus_text_laws = (rules, printable_so, text_done, enough_1)

-- the text, by whether it fits
module _ {out₀ out : List ℕ} {size most : ℕ} {s : List ℕ} (p : PutAt out₀ out 0 size most s) where
  size_is : size ≡ length s
  size_is = omega arith

  begins : take size out ≡ s
  begins = rw (p.wrote.after, size_is) (take_put out₀ s)

  pub text_within : most ≤ length out₀ → size ≤ length out
  text_within room = omega (arith, wrote_long p.wrote (omega arith))

  module _ (text : List ℕ) where
    pub written_not : length text < size → Written s text text 0 size
    written_not h = record { needs = size_is; wrote = copy_none text 0 s (omega (arith, size_is)) }

    pub written_fits : (text' : List ℕ) (end : ℕ) → Wrote (fitting text 0 (take size out)) 0 end text text' → size ≤ length text
        → Written s text text' size size
    written_fits text' end w h =
        let c = copied w begins (omega (arith, size_is)) in
        let e : end ≡ size = omega (arith, size_is) in
        record { needs = size_is; wrote = rw (fits_all text 0 s (omega (arith, size_is)), ← e) c }

  pub written_there : most ≤ length out₀ → Written s out₀ out size size
  written_there room = record { needs = size_is; wrote = rw (fits_all out₀ 0 s (omega (arith, size_is))) p.wrote }

pub ruleset put_apart_laws = (rules, text_within, length-take-le, written_not, written_fits)

pub ruleset put_printed_laws = (rules, written_there)

-- a text buffer of 73,741 octets is never too small: then the text is written whole
module _ (description text text' : List ℕ) (written needed : ℕ) (done : TextDone description text text' written needed)
    (room : 73741 ≤ length text) where
  pub text_whole : TextWhole description text' written
  text_whole =
      let w = copied done.wrote refl (omega (arith, printed_most description)) in
      record {
        within = omega (arith, printed_most description, wrote_long w (omega (arith, printed_most description)));
        begins = rw (w.ends, zero-add, w.after) (take_put text (printed description));
      }

pub text_size : (description text : List ℕ) (size : ℕ) → TextWhole description text size → size ≡ length (take size text)
text_size description text size whole = sym (length-take-le size text whole.within)
