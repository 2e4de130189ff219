-- THE PLACE THAT A WALK BACK FINDS: a mark of the tour, of a task in use, and the view there by the words and along the line.
use Rattle.std.specs.Prelude.{◌≡◌, refl, Bool, true, false, List, [], ◌∷◌, ℕ, ◌-◌, ◌<◌, ◌≤◌}
use Rattle.std.proofs.Common.{ap, sym, ◌∙◌, subst, arith}
use Rattle.std.proofs.lemmas.Bool.{false≢true}
use Rattle.std.proofs.Math.Logic.{⊎_elim}
use borrow.Author.Tests.{lt-ltb, le-ltb}
use Rattle.spec_words.specs.Words.{pick, halt, pass as skip}
use Rattle.spec_lists.specs.Counting.{occurrences, occurs_nil, occurs_here, occurs_past, equal?}
use Rattle.spec_tree.specs.Tour.{END}
use Rattle.spec_rules.specs.Contents.{decode}
use Rattle.spec_rules.specs.Rules.{Unfinished}
use Rattle.spec_outcomes.specs.Views.{task_at, kind_at}
use Rattle.spec_order.specs.Steps.{Item}
use Rattle.spec_lists.specs.Maps.{All, put_other}
use Rattle.law_gaps.specs.Line.{Extent, vacant, extent, Line, base, exited, entered, pass, exits, entries, Fits}
use Rattle.law_gaps.specs.Moves.{Place, children_of, right_of, view_at, reduced, children_with, rights_with}
use Rattle.law_gaps.specs.Places.{In}
use Rattle.law_gaps.proofs.Search.{first_of, place_at}
use Rattle.law_links.specs.Marks.{mark_held}
use Rattle.law_maps.specs.Meaning.{view_in}
use Rattle.law_invariant.specs.Represents.{alive, of_tasks, queue_memory, uses_in, Represents}
use Rattle.law_invariant.specs.Live.{holds_at}
use Rattle.law_invariant.specs.Views.{unfinished_alive, uses_small}

-- what a search finds is a member
first_member : (f : ℕ → Bool) (l : List ℕ) → (first_of f l ≡ END → ⊥) → 0 < occurrences (first_of f l) l
unfolding first_of
first_member f [] n = absurd (n refl)
first_member f (y ∷ l) n = go (f y) refl (first_member f l)
  where
    go : (b : Bool) → f y ≡ b → ((first_of f l ≡ END → ⊥) → 0 < occurrences (first_of f l) l) → 0 < occurrences (pick (f y) y (first_of f l)) (y ∷ l)
    go true e rest = subst (λ (z : ℕ). 0 < occurrences z (y ∷ l)) (sym (halt _ _ e)) (let g = occurs_here y y l refl in omega (arith, g))
    go false e rest =
        subst (λ (z : ℕ). 0 < occurrences z (y ∷ l)) (sym (skip _ e refl))
        (let p = rest (λ d. n (skip _ e d)) in
        ⊎_elim (λ d. let g = occurs_here y (first_of f l) l d in omega (arith, g)) (λ d. let g = occurs_past y (first_of f l) l d in omega (arith, g, p))
        (equal? y (first_of f l)))

-- a task that is exited in a line has a right
exited_uses : (uses : ℕ → Bool) (l : Line) (x : ℕ) → All (Fits uses) l → 0 < occurrences x (exits l) → uses x ≡ true
exited_uses uses [] x f p = let e = occurs_nil x in let z : ⊥ = omega (arith, e, p) in absurd z
exited_uses uses (base c ∷ l) x f p = exited_uses uses l x f.1 p
exited_uses uses (exited t ∷ l) x f p =
    ⊎_elim (λ e. ap uses (sym e) ∙ f.0) (λ n. let e = occurs_past t x (exits l) n in exited_uses uses l x f.1 (omega (arith, e, p))) (equal? t x)
exited_uses uses (entered t c ∷ l) x f p = exited_uses uses l x f.1 p
exited_uses uses (pass y ∷ l) x f p = exited_uses uses l x f.1 p

entered_uses : (uses : ℕ → Bool) (l : Line) (x : ℕ) → All (Fits uses) l → 0 < occurrences x (entries l) → uses x ≡ true
entered_uses uses [] x f p = let e = occurs_nil x in let z : ⊥ = omega (arith, e, p) in absurd z
entered_uses uses (base c ∷ l) x f p = entered_uses uses l x f.1 p
entered_uses uses (exited t ∷ l) x f p = entered_uses uses l x f.1 p
entered_uses uses (entered t c ∷ l) x f p =
    ⊎_elim (λ e. ap uses (sym e) ∙ f.0) (λ n. let e = occurs_past t x (entries l) n in entered_uses uses l x f.1 (omega (arith, e, p))) (equal? t x)
entered_uses uses (pass y ∷ l) x f p = entered_uses uses l x f.1 p

-- a view that is reduced into a place of the line is not of a task without a right
pub children_elsewhere : (uses : ℕ → Bool) (l : Line) (k : Place) (v : Extent) (f : ℕ → Extent) (u : ℕ) → All (Fits uses) l → In k l → uses u ≡ false
    → children_with v k f u ≡ f u
children_elsewhere uses l k vacant f u h i e = refl
children_elsewhere uses l (children_of t) (extent b y) f u h i e =
    put_other f t (reduced (f t) (extent b y)) u (λ d. false≢true (sym e ∙ ap uses d ∙ exited_uses uses l t h i))
children_elsewhere uses l (right_of t) (extent b y) f u h i e = refl

pub rights_elsewhere : (uses : ℕ → Bool) (l : Line) (k : Place) (v : Extent) (f : ℕ → Extent) (u : ℕ) → All (Fits uses) l → In k l → uses u ≡ false
    → rights_with v k f u ≡ f u
rights_elsewhere uses l k vacant f u h i e = refl
rights_elsewhere uses l (right_of t) (extent b y) f u h i e =
    put_other f t (reduced (f t) (extent b y)) u (λ d. false≢true (sym e ∙ ap uses d ∙ entered_uses uses l t h i))
rights_elsewhere uses l (children_of t) (extent b y) f u h i e = refl

-- what holds of the mark that is found
pub record Placed (m : List ℕ) (q x : ℕ) : Type 0 where
  pub range : task_at x < 128
  pub holds : holds_at (alive m) (place_at x)
  pub by_words : view_in m q (kind_at x) (task_at x) ≡ view_at (queue_memory m q).children (queue_memory m q).right (place_at x)

module _ (m : List ℕ) (xs : List Item) (r : Represents m xs) where
  -- of a mark of the tour
  pub mark_placed : (q x : ℕ) → 0 < occurrences x r.tour → Placed m q x
  unfolding task_at kind_at place_at holds_at queue_memory of_tasks pick
  mark_placed q x p = ⊎_elim entered_mark exited_mark (mark_held m r.tour xs r.linked x p)
    where
      entered_mark : (x < 128) × Unfinished (decode m) x → Placed m q x
      entered_mark v =
          let b = lt-ltb x 128 v.0 in
          let a = unfinished_alive m x v.1 in
          record {
            range = rw b v.0;
            holds = rw b a;
            by_words = rw b (sym (halt _ _ a));
          }

      exited_mark : (128 ≤ x) × (x < 256) × Unfinished (decode m) (x - 128) → Placed m q x
      exited_mark v =
          let b = le-ltb x 128 v.0 in
          let a = unfinished_alive m (x - 128) v.2 in
          record {
            range = rw b v.2.0;
            holds = rw b a;
            by_words = rw b (sym (halt _ _ a));
          }

  -- of a mark that a search finds, where the line has its place
  pub found_placed : (q : ℕ) (f : ℕ → Bool) (l : List ℕ) (a : Line) → ((x : ℕ) → 0 < occurrences x l → 0 < occurrences x r.tour) → All (Fits (uses_in m q)) a
      → In (place_at (first_of f l)) a → (0 < occurrences (first_of f l) l) × Placed m q (first_of f l)
  found_placed q f l a inside fits i =
      let n : first_of f l ≡ END → ⊥ = λ e. none (subst (λ (x : ℕ). In (place_at x) a) e i) in
      let p = first_member f l n in
      (p, mark_placed q (first_of f l) (inside (first_of f l) p))
    where
      none : In (place_at END) a → ⊥
      none j =
          let u = exited_uses (uses_in m q) a 128 fits (last j) in
          let z = uses_small m q 128 u in
          omega (arith, z)
        where
          last : In (place_at END) a → 0 < occurrences 128 (exits a)
          last k = unfold place_at pick in k
