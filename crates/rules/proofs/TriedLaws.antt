-- What `?` tells of the option or the result that it was tried on, and the code of a step that was refused or not.
use mathlib.Core.Path.{◌≡◌, refl, sym, ap, ◌∙◌}
use mathlib.Core.Bool.{Bool, true, false, not, false≢true, true≢false}
use Rattle.std.specs.Prelude.{Option, Some, None, Result, Ok, Err, is_err, is_some, IsErr}
use Rattle.std.specs.ControlFlow.{continue_value}
use Rattle.std.specs.Result.{result_from_control_flow, IsErrAnd}
use Rattle.std.proofs.Common.{ControlFlow, Continue, Break}
use specs.Answer.{code_by}
use specs.declared.Refusal.{Refusal}
use specs.declared.Refusal.TheVariants.{FileLong, FieldCut, BadLength, OutOfPlace, BadValue, NicknameMet, TooMany, SerialMet, EntryUnknown, TraceShort}
use Rattle.rules.proofs.TestLaws.{apart}
use Rattle.rules.specs

module _ {A B : Type 0} {o : Option A} (r : ControlFlow B A) (is : o ≡ continue_value r) where
  pub some_on : (x : A) → r ≡ Continue x → o ≡ Some x
  some_on x e = is ∙ ap continue_value e

  pub none_on : (b : B) → r ≡ Break b → o ≡ None
  none_on b e = is ∙ ap continue_value e

pub ok_on : {A E : Type 0} {o : Result A E} (r : _) → o ≡ result_from_control_flow r → (x : A) → r ≡ Continue x → o ≡ Ok x
ok_on r is x e = is ∙ ap result_from_control_flow e

pub err_on : {A E : Type 0} {o : Result A E} (r : _) → o ≡ result_from_control_flow r → (b : _) → r ≡ Break b → o ≡ Err b.0
err_on r is b e = is ∙ ap result_from_control_flow e

pub left_with : {A E : Type 0} {e : E} (r : Result A E) → IsErr r × IsErrAnd r (λ x. x ≡ e) → r ≡ Err e
left_with (Ok a) x = absurd x.1
left_with (Err e) x = ap Err x.1

-- a test whether a step was refused, and its code
module _ {A : Type 0} (r : Result A Refusal) (b : Bool) (is : b ≡ is_err r) where
  small : (r : Result A Refusal) → is_err r ≡ true → code_by r ≡ 0 → ⊥
  small (Ok a) e z = absurd (false≢true e)
  small (Err FileLong) e z = apart (cc z)
  small (Err FieldCut) e z = apart (cc z)
  small (Err BadLength) e z = apart (cc z)
  small (Err OutOfPlace) e z = apart (cc z)
  small (Err BadValue) e z = apart (cc z)
  small (Err NicknameMet) e z = apart (cc z)
  small (Err TooMany) e z = apart (cc z)
  small (Err SerialMet) e z = apart (cc z)
  small (Err EntryUnknown) e z = apart (cc z)
  small (Err TraceShort) e z = apart (cc z)

  zero : (r : Result A Refusal) → is_err r ≡ false → code_by r ≡ 0
  zero (Ok a) e = refl
  zero (Err r) e = absurd (true≢false e)

  pub code_refused : b ≡ true → code_by r ≡ 0 → ⊥
  code_refused e = small r (sym is ∙ e)

  pub code_none : b ≡ false → code_by r ≡ 0
  code_none e = zero r (sym is ∙ e)

-- a test whether there is none
module _ {A : Type 0} (o : Option A) (b : Bool) (is : is_some o ≡ not b) where
  pub none_there : b ≡ true → is_some o ≡ false
  none_there e = is ∙ ap not e

  pub some_there : b ≡ false → is_some o ≡ true
  some_there e = is ∙ ap not e

pub ruleset tried = (some_on, none_on, ok_on, err_on, left_with, code_refused, code_none, none_there, some_there)
