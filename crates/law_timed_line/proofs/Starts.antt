-- WHERE A SEARCH BEGINS: in front of the line stand the values put back. A task that looks in a queue finds the first of them, and then
-- goes along the line; where there is none it looks along the line. No operation puts a value back yet: request 12.
use Rattle.std.specs.Prelude.{◌≡◌, refl, Bool, List, [], ◌∷◌, ℕ}
use Rattle.std.proofs.Common.{ap, sym, ◌∙◌}
use Rattle.spec_line.specs.Line.{Action, puts, looks, returns, Search, free, seeking, found, putting, About, Apart}
use Rattle.spec_line.specs.Rights.{Tasks}
use Rattle.spec_line.specs.Fronts.{Fronts, fronts_after, fronts_other, fronts_swap}

abbrev pub opening : Bool → ℕ → List ℕ → Search
opening b q [] = seeking b q
opening b q (v ∷ vs) = found b q v

opening_about : (b : Bool) (q : ℕ) (vs : List ℕ) → About q (opening b q vs)
opening_about b q [] = refl
opening_about b q (v ∷ vs) = refl

module _ {S : Type 0} where
  -- the search that an action begins with, as it comes to the line
  abbrev pub start_of : Action S → Fronts → Search
  start_of (puts xs) r = free
  start_of (looks b q f) r = opening b q (r q)
  start_of (returns q v xs) r = putting q v

  -- it does not hang on what is done about other queues
  pub start_kept : (m : Search) (i : Action S) (r r' : Fronts) → Apart m (start_of i r') → start_of i (fronts_after m r) ≡ start_of i r
  start_kept m (puts xs) r r' a = refl
  start_kept m (looks b q f) r r' a = ap (opening b q) (fronts_other m r q (λ e. a q e (opening_about b q (r' q))))
  start_kept m (returns q v xs) r r' a = refl

module _ {S : Type 0} (T : Tasks S) where
  abbrev pub start_at : S → Fronts → Search
  start_at u r = start_of (T.next u) r

  -- what stands in front after a move of u
  abbrev pub fronts_of : S → Fronts → Fronts
  fronts_of u r = fronts_after (start_at u r) r

  module _ (u w : S) (r : Fronts) (a : Apart (start_at u r) (start_at w r)) where
    pub start_after : (x : Fronts) → fronts_of u r ≡ x → start_at w x ≡ start_at w r
    start_after x e = ap (start_of (T.next w)) (sym e) ∙ start_kept (start_at u r) (T.next w) r r a

    pub fronts_after_lem : (x : Fronts) → fronts_of u r ≡ x → fronts_of w x ≡ fronts_after (start_at w r) (fronts_after (start_at u r) r)
    fronts_after_lem x e = ap (λ (m : Search). fronts_after m x) (start_after x e) ∙ ap (fronts_after (start_at w r)) (sym e)

    pub fronts_both : fronts_after (start_at w r) (fronts_after (start_at u r) r) ≡ fronts_after (start_at u r) (fronts_after (start_at w r) r)
    fronts_both = fronts_swap (start_at u r) (start_at w r) r a
