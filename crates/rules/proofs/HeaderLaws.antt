-- One law for each answer that the headers decide, over what the code finds, in the order of the tests.
use mathlib.Core.Path.{◌≡◌}
use mathlib.Core.List.{List}
use mathlib.Core.Bool.{Bool, true, false, not}
use Prim.Native.Nat.{ℕ, ◌<◌, ◌≤◌}
use borrow.Author.Rules.{rules}
use lib.Dec.{eqb}
use lib.ListN.{length}
use specs.Octets.{be48}
use specs.Header.{version, multi, hop_count, inner_start, header_refusal, we_are_egress}
use specs.declared.Header.{Header}
use Rattle.rules.proofs.TestLaws.{tests}
use Rattle.rules.specs

module _ (mac : ℕ) (f : List ℕ) (h : Header) (own : Bool) (its_own : own ≡ eqb (be48 f 0) mac) where
  pub refuse_12 : not own ≡ true → 12 ≡ header_refusal mac f h
  unfolding header_refusal
  refuse_12 e = simp (← its_own, e)

  module _ (ours : not own ≡ false) (v : ℕ) (its_v : v ≡ version h.word) where
    pub refuse_13 : (v ≡ 0 → ⊥) → 13 ≡ header_refusal mac f h
    unfolding header_refusal
    refuse_13 n = simp (← its_own, ours, ← its_v, tests)

    module _ (is_0 : v ≡ 0) (m : ℕ) (its_m : m ≡ multi h.word) where
      pub refuse_14 : m ≡ 1 → 14 ≡ header_refusal mac f h
      unfolding header_refusal
      refuse_14 e = simp (← its_own, ours, ← its_v, ← its_m, tests)

      module _ (not_1 : m ≡ 1 → ⊥) where
        pub refuse_15_zero : h.ingress ≡ 0 → 15 ≡ header_refusal mac f h
        unfolding header_refusal
        refuse_15_zero e = simp (← its_own, ours, ← its_v, ← its_m, tests)

        module _ (some_in : h.ingress ≡ 0 → ⊥) where
          pub refuse_15 : 0xFFC0 ≤ h.ingress → 15 ≡ header_refusal mac f h
          unfolding header_refusal
          refuse_15 g = simp (← its_own, ours, ← its_v, ← its_m, tests)

          module _ (valid_in : h.ingress < 0xFFC0) where
            pub refuse_16_zero : h.egress ≡ 0 → 16 ≡ header_refusal mac f h
            unfolding header_refusal
            refuse_16_zero e = simp (← its_own, ours, ← its_v, ← its_m, tests)

            module _ (some_out : h.egress ≡ 0 → ⊥) where
              pub refuse_16 : 0xFFC0 < h.egress → 16 ≡ header_refusal mac f h
              unfolding header_refusal
              refuse_16 g = simp (← its_own, ours, ← its_v, ← its_m, tests)

              module _ (valid_out : h.egress ≤ 0xFFC0) (k : ℕ) (its_k : k ≡ hop_count h.word) where
                pub refuse_17 : k ≡ 0 → 17 ≡ header_refusal mac f h
                unfolding header_refusal
                refuse_17 e = simp (← its_own, ours, ← its_v, ← its_m, ← its_k, tests)

                module _ (some_left : k ≡ 0 → ⊥) (start : ℕ) (its_start : start ≡ inner_start h) where
                  pub refuse_18 : length f < start → 18 ≡ header_refusal mac f h
                  unfolding header_refusal
                  refuse_18 l = simp (← its_own, ours, ← its_v, ← its_m, ← its_k, ← its_start, tests)

                  pub refuse_none : start ≤ length f → 0 ≡ header_refusal mac f h
                  unfolding header_refusal
                  refuse_none l = simp (← its_own, ours, ← its_v, ← its_m, ← its_k, ← its_start, tests)

pub ruleset header_refusal_laws =
    (rules, refuse_12, refuse_13, refuse_14, refuse_15_zero, refuse_15, refuse_16_zero, refuse_16, refuse_17, refuse_18, refuse_none)

-- whether we are the egress
module _ (nickname : ℕ) (h : Header) where
  pub egress_own : h.egress ≡ nickname → true ≡ we_are_egress nickname h
  unfolding we_are_egress
  egress_own e = simp tests

  pub egress_any : (h.egress ≡ nickname → ⊥) → eqb h.egress 0xFFC0 ≡ we_are_egress nickname h
  unfolding we_are_egress
  egress_any n = simp tests

pub ruleset we_are_egress_laws = (rules, egress_own, egress_any)
