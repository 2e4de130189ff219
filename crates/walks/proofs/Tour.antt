-- The mark after a task that is entered, and after one that is exited.
use mathlib.Core.Path.{◌≡◌, refl, ap, ap₂, sym, ◌∙◌}
use mathlib.Core.List.{List}
use Prim.Native.Nat.{ℕ, ◌-◌, ◌<◌, ◌≤◌}
use borrow.Author.Tests.{lt-ltb, le-ltb}
use Rattle.spec_words.specs.Words.{pass, halt}
use Rattle.spec_layout.specs.Layout.{PARENT, OLDER, YOUNGEST, task, read, record_of}
use Rattle.spec_layout.proofs.Frame.{record_word}
use Rattle.spec_tree.specs.Tour.{entering, after}

pub after_entered : {r y : ℕ} (m : List ℕ) (x : ℕ) → x < 128 → y ≡ read m (task x YOUNGEST) → r ≡ entering x y → r ≡ after (record_of m) x
unfolding after
after_entered m x h e d = d ∙ ap (entering x) (e ∙ sym (record_word m x YOUNGEST)) ∙ sym (halt _ _ (lt-ltb x 128 h))

pub after_exited : {r p o : ℕ} (m : List ℕ) (x : ℕ) → 128 ≤ x → p ≡ read m (task (x - 128) PARENT) → o ≡ read m (task (x - 128) OLDER)
    → r ≡ entering p o → r ≡ after (record_of m) x
unfolding after
after_exited m x h e g d =
    d ∙ ap₂ entering (e ∙ sym (record_word m (x - 128) PARENT)) (g ∙ sym (record_word m (x - 128) OLDER))
    ∙ sym (pass _ (le-ltb x 128 h) refl)
