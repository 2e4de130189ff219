-- The marks of the tour one after the other, as the code's loop goes through them.
use Rattle.std.specs.Prelude.{◌≡◌, Bool, true, false, ℕ, ◌+◌, ◌<◌, ◌≤◌, length}
use Rattle.std.proofs.Math.Path.{ap, sym}
use Rattle.std.proofs.Common.{◌∙◌, add-one, drop_of_length-le, drop-cons}
use mathlib.Core.List.{List, ◌∷◌}
use Rattle.std.proofs.Math.ListN.{get_or, drop}
use Rattle.spec_words.specs.Words.{both_on, both_off}
use Rattle.spec_rules.specs.Contents.{Contents, decode}
use Rattle.spec_view_events.specs.Events.{events_at, events}
use Rattle.spec_view_events.specs.Run.{whole, run}
use Rattle.spec_view_events.specs.Sees.{Sees}

-- all marks are places of the tour
abbrev pub Marks : List ℕ → Type 0
Marks xs = (i : ℕ) → i < length xs → get_or xs i 0 < 256

module _ (m xs : List ℕ) (i : ℕ) where
  abbrev c : Contents
  c = decode m

  next_mark : (d f w : List ℕ) → i < length xs
      → run c (events_at c (get_or xs i 0) (events c (drop (i + 1) xs))) d f w ≡ run c (events c (drop i xs)) d f w
  unfolding events
  next_mark d f w h =
      sym (ap (λ (l : List ℕ). run c (events c l) d f w)
      (drop-cons xs i 0 h ∙ ap (λ (j : ℕ). get_or xs i 0 ∷ drop j xs) (sym (add-one i))))

  module _ {b : Bool} {d f w d1 f1 w1 : List ℕ} (h : i < length xs) (s : Sees m (events_at c (get_or xs i 0)) b d f w d1 f1 w1) where
    pub walk_stop : b ≡ false → false ≡ run c (events c (drop i xs)) d f w
    walk_stop e = sym (both_off _ e) ∙ s.same (events c (drop (i + 1) xs)) ∙ next_mark d f w h

    pub walk_more : b ≡ true → run c (events c (drop (i + 1) xs)) d1 f1 w1 ≡ run c (events c (drop i xs)) d f w
    walk_more e = sym (both_on e) ∙ s.same (events c (drop (i + 1) xs)) ∙ next_mark d f w h

  pub walk_done : (d f w : List ℕ) → length xs ≤ i → whole c w ≡ run c (events c (drop i xs)) d f w
  unfolding run events
  walk_done d f w h = sym (ap (λ (l : List ℕ). run c (events c l) d f w) (drop_of_length-le xs h))
