-- The view just before a user view, where no walk is needed to find it.
use mathlib.Core.Path.{◌≡◌, refl, ap, sym, ◌∙◌, subst}
use mathlib.Core.Bool.{true, false, not}
use mathlib.Core.List.{List}
use Rattle.std.specs.Prelude.{Option, Some as known, None as unknown, IfSome}
use Prim.Native.Nat.{ℕ, ◌+◌, ◌-◌, ◌<◌, ◌≤◌}
use native.Mathlib.Omega.{arith}
use borrow.Author.Tests.{lt-ltb, le-ltb, ne_eqb}
use Rattle.spec_words.specs.Words.{pass, halt, neither, true_both, true_left, both_right_off}
use Rattle.spec_layout.specs.Layout.{CHILDREN, OLDER, YOUNGEST, task, rights_of, read, record_of}
use Rattle.spec_tree.specs.Rights.{uses}
use Rattle.spec_tree.specs.Tour.{entering, exiting, seek}
use Rattle.spec_outcomes.specs.Views.{view_of, is_empty, task_at, has_part, stands_at, just_before}
use Rattle.walks.specs.Steps.{seek_here, seek_on}
use Rattle.walks.proofs.Tour.{after_entered, after_exited}

module _ (m : List ℕ) (q t : ℕ) where
  -- what a task at hand promises: it is c, and has a right
  abbrev pub Here : ℕ → Option ℕ → Type 0
  Here c o = IfSome o (λ x. (x ≡ c) × (x < 128) × (uses (rights_of m c) q ≡ true))

  some_is : (o : Option ℕ) {c : ℕ} → (c < 128 → uses (rights_of m c) q ≡ true → c ≡ just_before m q t) → Here c o → IfSome o (λ x. x ≡ just_before m q t)
  some_is unknown f h = h
  some_is (known x) {c} f h = h.0 ∙ f (subst (λ (x : ℕ). x < 128) h.0 h.1) h.2

  -- the right view of a task with a right stands where it is entered
  stands : (c : ℕ) → c < 128 → uses (rights_of m c) q ≡ true → stands_at m q c ≡ true
  unfolding stands_at has_part task_at
  stands c l u = true_both (ap (λ (t : ℕ). uses (rights_of m t) q) (halt _ _ (lt-ltb c 128 l)) ∙ u) (true_left _ (lt-ltb c 128 l))

  enters : (p c : ℕ) → c < 128 → c ≡ entering p c
  unfolding entering
  enters p c l = sym (halt _ _ (lt-ltb c 128 l))

  module _ (lt : t < 128) {c : ℕ} (ec : c ≡ read m (task t YOUNGEST)) where
    pub child_before : (o : Option ℕ) → c < 128 → Here c o → IfSome o (λ x. x ≡ just_before m q t)
    unfolding just_before
    child_before o l = some_is o reached
      where
        reached : c < 128 → uses (rights_of m c) q ≡ true → c ≡ just_before m q t
        reached _ u =
            seek_here (stands_at m q) (record_of m) 256 c (omega arith) (omega (arith, l)) (stands c l u)
            ∙ ap (seek 256 (stands_at m q) (record_of m)) (after_entered m t lt ec (enters t c l))

    leaves : 128 ≤ c → 128 + t ≡ entering t c
    unfolding entering exiting
    leaves l = sym (pass _ (le-ltb c 128 l) (halt _ _ (lt-ltb t 128 lt)))

    back : 128 + t - 128 ≡ t
    back = omega arith

    -- an empty children view is passed over
    skipped : (t ≡ 0 → ⊥) → is_empty (view_of m q t CHILDREN) ≡ true → stands_at m q (128 + t) ≡ false
    unfolding stands_at
    skipped n e =
        both_right_off _ (neither (le-ltb (128 + t) 128 (omega arith))
        (neither (ne_eqb (128 + t - 128) 0 (λ z. n (omega (arith, z)))) (ap (λ (s : ℕ). not (is_empty (view_of m q s CHILDREN))) back ∙ ap not e)))

    pub sibling_before : {s : ℕ} (o : Option ℕ) → 128 ≤ c → (t ≡ 0 → ⊥) → is_empty (view_of m q t CHILDREN) ≡ true → s ≡ read m (task t OLDER)
        → Here s o → IfSome o (λ x. x ≡ just_before m q t)
    unfolding just_before
    sibling_before {s} o l n e es = some_is o reached
      where
        reached : s < 128 → uses (rights_of m s) q ≡ true → s ≡ just_before m q t
        reached small u =
            seek_here (stands_at m q) (record_of m) 255 s (omega arith) (omega (arith, small)) (stands s small u)
            ∙ seek_on (stands_at m q) (record_of m) 256 (128 + t) s (omega arith) (omega (arith, lt)) (skipped n e)
            (after_exited m (128 + t) (omega arith) refl (es ∙ ap (λ (r : ℕ). read m (task r OLDER)) (sym back)) (enters _ s small))
            ∙ ap (seek 256 (stands_at m q) (record_of m)) (after_entered m t lt ec (leaves l))
