-- The steps of the loop are those of the definition.
use mathlib.Core.Path.{◌≡◌, refl, ap, ap₂, sym, ◌∙◌}
use mathlib.Core.List.{List}
use Prim.Native.Nat.{ℕ, zero, suc, ◌-◌, ◌<◌, ◌≤◌}
use native.Mathlib.Omega.{arith}
use borrow.Author.Tests.{eq-eqb, ne_eqb}
use Rattle.spec_words.specs.Words.{halt, pass}
use Rattle.spec_span.specs.Pass.{pass_step, pass_from, pass_opened, span_pass}
use Rattle.spec_span.specs.Pass.Stood.{stood}
use Rattle.span_words.specs.declared.Standing.{Standing}
use Rattle.span_pass.specs.Steps.{Steps}

suc_sub_one : (n : ℕ) → suc n - 1 ≡ n
suc_sub_one n = omega arith

module _ (j table : List ℕ) where
  pub one_more : (n : ℕ) (w : List ℕ) (d t : ℕ) {w1 : List ℕ} {s : Standing} → 0 < n → (d ≡ 0 → ⊥) → Steps w1 s (pass_step j table w d)
      → pass_from (n - 1) j table (stood w1 s.depth s.time) ≡ pass_from n j table (stood w d t)
  one_more zero w d t h z st = let f : ⊥ = omega (arith, h) in absurd f
  one_more (suc n) w d t h z st =
      ap (pass_from (suc n - 1) j table) st.here
      ∙ ap (λ (k : ℕ). pass_from k j table (pass_step j table w d)) (suc_sub_one n)
      ∙ (unfold pass_from in sym (pass _ (ne_eqb d 0 z) refl))

  pub all_returned : (n : ℕ) (w : List ℕ) (d t : ℕ) → 0 < n → d ≡ 0 → t ≡ pass_from n j table (stood w d t)
  all_returned zero w d t h z = let f : ⊥ = omega (arith, h) in absurd f
  all_returned (suc n) w d t h z = unfold pass_from in sym (halt _ _ (eq-eqb d 0 z))

  pub no_more : (n : ℕ) (w : List ℕ) (d t : ℕ) → n ≤ 0 → t ≡ pass_from n j table (stood w d t)
  unfolding pass_from
  no_more zero w d t h = refl
  no_more (suc n) w d t h = let f : ⊥ = omega (arith, h) in absurd f

  pub from_opened : (w : List ℕ) {w0 : List ℕ} {d t : ℕ} → w0 ≡ pass_opened w → d ≡ 1 → t ≡ 0 → pass_from 65535 j table (stood w0 d t) ≡ span_pass j table w
  unfolding span_pass
  from_opened w {w0} e ed et =
      ap₂ (λ (d t : ℕ). pass_from 65535 j table (stood w0 d t)) ed et ∙ ap (λ (l : List ℕ). pass_from 65535 j table (stood l 1 0)) e
