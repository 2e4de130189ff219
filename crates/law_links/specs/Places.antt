-- WHERE A TASK STANDS in the tour: what the tour meets behind it are the spots before its own.
use Rattle.std.specs.Prelude.{◌≡◌, refl, Bool, true, false, ℕ, zero, suc, ◌+◌, ◌<◌, ◌≤◌, ltb, leb, length}
use Rattle.std.proofs.Common.{ap, ap₂, sym, ◌∙◌, subst, inl, ⊎_elim, arith, length-append}
use mathlib.Core.List.{List, [], ◌∷◌, ◌++◌, head-eq_of_cons-eq, tail-eq_of_cons-eq, append_assoc, cons-ne-nil, append-ne-nil_of_right_ne-nil}
use Rattle.spec_words.specs.Words.{pick}
use Rattle.spec_lists.specs.Counting.{below?}
use Rattle.spec_layout.specs.Layout.{NONE, YOUNGEST, task, read, record_of}
use Rattle.spec_tree.specs.Tour.{END, MARKS, after, tour, entered, seek}
use Rattle.spec_rules.specs.Contents.{Contents, decode}
use Rattle.law_rules_tasks.specs.Marks.{after_top, after_childless, tour_past}
use Rattle.law_rules_tasks.specs.Tested.{top_says}
use Rattle.law_rules_tasks.specs.Holders.{entered_here, entered_past}
use Rattle.law_gaps.proofs.Search.{first_of}
use Rattle.spec_order.specs.Steps.{Task, Item, spot, number_of}
use Rattle.law_order_waits.specs.Changes.{in_right}
use Rattle.law_links.specs.Row.{Row, leads_after, row_behind, row_tour}
use Rattle.law_links.specs.Linked.{numbers_back, back_append, Linked, word_is, spot_unfinished}

-- a search of the tour is a search of its marks
pub seek_first : (k : ℕ) (f : ℕ → Bool) (recs : ℕ → List ℕ) (x : ℕ) → seek k f recs x ≡ first_of f (tour k recs x)
unfolding seek tour first_of pick
seek_first zero f recs x = refl
seek_first (suc k) f recs x = go (leb END x) (seek_first k f recs (after recs x))
  where
    go : (b : Bool) → seek k f recs (after recs x) ≡ first_of f (tour k recs (after recs x))
        → pick b END (pick (f x) x (seek k f recs (after recs x))) ≡ first_of f (pick b [] (x ∷ tour k recs (after recs x)))
    go true e = refl
    go false e = ap (pick (f x) x) e

-- the tasks entered, in two parts
pub entered_append : (a b : List ℕ) → entered (a ++ b) ≡ entered a ++ entered b
unfolding entered pick
entered_append [] b = refl
entered_append (x ∷ a) b = go (ltb x 128) (entered_append a b)
  where
    go : (d : Bool) → entered (a ++ b) ≡ entered a ++ entered b → pick d (x ∷ entered (a ++ b)) (entered (a ++ b)) ≡ pick d (x ∷ entered a) (entered a) ++ entered b
    go true e = ap (λ (l : List ℕ). x ∷ l) e
    go false e = e

-- a place among the tasks entered is a place among the marks
entered_parts : (T l r : List ℕ) (t : ℕ) → entered T ≡ l ++ t ∷ r → (b : List ℕ) × (a : List ℕ) × (T ≡ b ++ t ∷ a) × (entered b ≡ l) × (entered a ≡ r)
unfolding entered
entered_parts [] l r t e = absurd (append-ne-nil_of_right_ne-nil l (cons-ne-nil t r) (sym e))
entered_parts (x ∷ T) l r t e =
    ⊎_elim (λ h. on l (sym (entered_here x T h) ∙ e) h (λ k d. entered_parts T k r t d)) (λ h. over h (entered_parts T l r t (sym (entered_past x T h) ∙ e))) (below? x 128)
  where
    on : (l : List ℕ) → x ∷ entered T ≡ l ++ t ∷ r → x < 128
        → ((k : List ℕ) → entered T ≡ k ++ t ∷ r → (b : List ℕ) × (a : List ℕ) × (T ≡ b ++ t ∷ a) × (entered b ≡ k) × (entered a ≡ r))
        → (b : List ℕ) × (a : List ℕ) × (x ∷ T ≡ b ++ t ∷ a) × (entered b ≡ l) × (entered a ≡ r)
    on [] d h rest = ([], T, ap (λ (y : ℕ). y ∷ T) (head-eq_of_cons-eq d), refl, tail-eq_of_cons-eq d)
    on (y ∷ l) d h rest =
        let w = rest l (tail-eq_of_cons-eq d) in
        (x ∷ w.0, w.1, ap (λ (k : List ℕ). x ∷ k) w.2, entered_here x w.0 h ∙ ap₂ (λ (z : ℕ) (k : List ℕ). z ∷ k) (head-eq_of_cons-eq d) w.3, w.4)

    over : 128 ≤ x → (b : List ℕ) × (a : List ℕ) × (T ≡ b ++ t ∷ a) × (entered b ≡ l) × (entered a ≡ r)
        → (b : List ℕ) × (a : List ℕ) × (x ∷ T ≡ b ++ t ∷ a) × (entered b ≡ l) × (entered a ≡ r)
    over h w = (x ∷ w.0, w.1, ap (λ (k : List ℕ). x ∷ k) w.2, entered_past x w.0 h ∙ w.3, w.4)

-- WHERE THE TASK STANDS
pub record Place (m : List ℕ) (T : List ℕ) (ys zs : List Item) (s : Task) : Type 0 where
  pub later : List ℕ
  pub earlier : List ℕ
  pub here : T ≡ later ++ number_of s ∷ earlier
  pub entered_later : entered later ≡ numbers_back zs
  pub entered_earlier : entered earlier ≡ numbers_back ys
  -- a search from behind it
  pub search : (f : ℕ → Bool) → seek MARKS f (record_of m) (after (record_of m) (number_of s)) ≡ first_of f earlier

module _ (m : List ℕ) (T : List ℕ) (ys zs : List Item) (s : Task) (h : Linked m T (ys ++ spot s ∷ zs)) where
  abbrev c : Contents
  c = decode m

  out : after c.recs 128 ≡ 256
  out = let t = top_says c h.top in after_top c t.parent t.older

  -- the tour from behind a mark of it
  pub tour_behind : (b : List ℕ) (x : ℕ) (a : List ℕ) → T ≡ b ++ x ∷ a → tour MARKS (record_of m) (after (record_of m) x) ≡ a
  tour_behind b x a e = go a (row_behind c b x a (subst (Row c) e h.row)) few
    where
      few : length a ≤ 256
      few = let n = h.many in let k = ap length e in let l = length-append b (x ∷ a) in omega (arith, n, k, l)

      go : (a : List ℕ) → Row c (x ∷ a) → length a ≤ 256 → tour MARKS (record_of m) (after (record_of m) x) ≡ a
      go [] r n = ap (λ (y : ℕ). tour MARKS (record_of m) (after (record_of m) y)) r ∙ ap (tour MARKS (record_of m)) out ∙ tour_past c MARKS 256 (omega arith)
      go (y ∷ a) r n = ap (tour MARKS (record_of m)) (leads_after c r.0) ∙ row_tour c MARKS y a out r.1 n

  pub search_behind : (b : List ℕ) (x : ℕ) (a : List ℕ) → T ≡ b ++ x ∷ a → (f : ℕ → Bool) → seek MARKS f (record_of m) (after (record_of m) x) ≡ first_of f a
  search_behind b x a e f = seek_first MARKS f (record_of m) (after (record_of m) x) ∙ ap (first_of f) (tour_behind b x a e)

  pub place : Place m T ys zs s
  unfolding numbers_back
  place =
      let w = entered_parts T (numbers_back zs) (numbers_back ys) (number_of s)
      (h.spots ∙ back_append ys (spot s ∷ zs) ∙ append_assoc (numbers_back zs) (number_of s ∷ []) (numbers_back ys)) in
      record { later = w.0; earlier = w.1; here = w.2; entered_later = w.3; entered_earlier = w.4; search = search_behind w.0 (number_of s) w.1 w.2 }

  -- a task without children is exited next
  pub childless : (p : Place m T ys zs s) → read m (task (number_of s) YOUNGEST) ≡ NONE → (a : List ℕ) × (p.earlier ≡ (128 + number_of s) ∷ a)
  childless p e = go p.earlier (row_behind c p.later (number_of s) p.earlier (subst (Row c) p.here h.row))
    where
      small : number_of s < 128
      small = (spot_unfinished m T (ys ++ spot s ∷ zs) h s (in_right (spot s) ys (spot s ∷ zs) (inl refl))).0

      go : (a : List ℕ) → Row c (number_of s ∷ a) → (b : List ℕ) × (a ≡ (128 + number_of s) ∷ b)
      go [] r = let z : ⊥ = omega (arith, r, small) in absurd z
      go (y ∷ a) r = (a, ap (λ (x : ℕ). x ∷ a) (sym (leads_after c r.0) ∙ after_childless c (number_of s) small (word_is m (number_of s) YOUNGEST ∙ e)))
