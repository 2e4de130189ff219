-- THE TOUR AS A LIST of marks: each mark leads to the next, by links that are right; the last is where the top is exited.
use Rattle.std.specs.Prelude.{◌≡◌, true, List, [], ◌∷◌, ◌++◌, ℕ, zero, suc, ◌+◌, ◌<◌, ◌≤◌, length}
use Rattle.std.proofs.Common.{ap, sym, ◌∙◌, subst, le_of_suc-le-suc, arith}
use Rattle.spec_layout.specs.Layout.{NONE, PARENT, OLDER, YOUNGEST}
use Rattle.spec_tree.specs.Tour.{after, tour}
use Rattle.spec_rules.specs.Contents.{Contents, word}
use Rattle.spec_rules.specs.Test.{tree_test}
use Rattle.law_rules_tasks.specs.Marks.{Kin, tree_last, entered_none, entered_child, exited_none, exited_older, after_childless, after_parent, after_oldest, after_younger}
use Rattle.law_rules_tasks.specs.Marks.{tour_cons, tour_past}

module _ (c : Contents) where
  -- Mark x leads to mark y: a task without children is exited, else its youngest child is entered; behind a task its older
  -- sibling is entered, else its parent is exited.
  pub data Leads : ℕ → ℕ → Type 0 where
    childless : {t : ℕ} → t < 128 → word c t YOUNGEST ≡ NONE → Leads t (128 + t)
    child : {t y : ℕ} → t < 128 → word c t YOUNGEST ≡ y → Kin c y t NONE → Leads t y
    oldest : {t p : ℕ} → 0 < t → t < 128 → word c t PARENT ≡ p → p < 128 → word c t OLDER ≡ NONE → Leads (128 + t) (128 + p)
    older : {t y p : ℕ} → 0 < t → t < 128 → word c t PARENT ≡ p → p < 128 → word c t OLDER ≡ y → Kin c y p t → Leads (128 + t) y

  abbrev pub Row : List ℕ → Type 0
  Row [] = ⊥
  Row (x ∷ []) = x ≡ 128
  Row (x ∷ y ∷ l) = Leads x y × Row (y ∷ l)

  pub leads_after : {x y : ℕ} → Leads x y → after c.recs x ≡ y
  leads_after (childless {t} l e) = after_childless c t l e
  leads_after (child {t} {y} l e k) = let b = k.below in after_parent c t l (omega (arith, e, b)) ∙ e
  leads_after (oldest {t} {p} z l e m f) = after_oldest c t (omega (arith, e, m)) f ∙ ap (λ (x : ℕ). 128 + x) e
  leads_after (older {t} {y} {p} z l e m f k) = let b = k.below in after_younger c t (omega (arith, f, b)) ∙ f

  pub leads_below : {x y : ℕ} → Leads x y → x < 256
  leads_below (childless l e) = omega (arith, l)
  leads_below (child l e k) = omega (arith, l)
  leads_below (oldest z l e m f) = omega (arith, l)
  leads_below (older z l e m f k) = omega (arith, l)

  -- the top is exited last
  pub leads_on : {x y : ℕ} → Leads x y → x ≡ 128 → ⊥
  leads_on (childless l e) q = omega (arith, l, q)
  leads_on (child l e k) q = omega (arith, l, q)
  leads_on (oldest z l e m f) q = omega (arith, z, q)
  leads_on (older z l e m f k) q = omega (arith, z, q)

  tree_before : (k : ℕ) {x y : ℕ} → Leads x y → tree_test c k y ≡ true → tree_test c (suc k) x ≡ true
  tree_before k (childless {t} l e) h = entered_none c k t l e h
  tree_before k (child {t} {y} l e i) h = entered_child c k t l (subst (λ (u : ℕ). Kin c u t NONE) (sym e) i) (ap (tree_test c k) e ∙ h)
  tree_before k (oldest {t} {p} z l e m f) h = exited_none c k t z (omega (arith, e, m)) f (ap (λ (x : ℕ). tree_test c k (128 + x)) e ∙ h)
  tree_before k (older {t} {y} {p} z l e m f i) h =
      exited_older c k t z (subst (λ (q : ℕ). Kin c (word c t OLDER) q t) (sym e) (subst (λ (u : ℕ). Kin c u p t) (sym f) i)) (ap (tree_test c k) f ∙ h)

  -- the test of the tree, with as many marks as there are
  pub row_tree : (x : ℕ) (l : List ℕ) → Row (x ∷ l) → tree_test c (length (x ∷ l)) x ≡ true
  row_tree x [] h = ap (tree_test c 1) h ∙ tree_last c
  row_tree x (y ∷ l) h = tree_before (length (y ∷ l)) h.0 (row_tree y l h.1)

  -- the tour from its first mark on, where nothing comes after the top is exited
  pub row_tour : (k x : ℕ) (l : List ℕ) → after c.recs 128 ≡ 256 → Row (x ∷ l) → length (x ∷ l) ≤ k → tour k c.recs x ≡ x ∷ l
  row_tour zero x l out h n = let z : ⊥ = omega (arith, n) in absurd z
  row_tour (suc k) x [] out h n =
      tour_cons c k x (omega (arith, h))
      ∙ ap (λ (r : List ℕ). x ∷ r) (ap (tour k c.recs) (ap (after c.recs) h ∙ out) ∙ tour_past c k 256 (omega arith))
  row_tour (suc k) x (y ∷ l) out h n =
      tour_cons c k x (leads_below h.0)
      ∙ ap (λ (r : List ℕ). x ∷ r) (ap (tour k c.recs) (leads_after h.0) ∙ row_tour k y l out h.1 (le_of_suc-le-suc n))

  -- a part of a row
  pub row_behind : (b : List ℕ) (x : ℕ) (l : List ℕ) → Row (b ++ x ∷ l) → Row (x ∷ l)
  row_behind [] x l h = h
  row_behind (y ∷ []) x l h = h.1
  row_behind (y ∷ z ∷ b) x l h = row_behind (z ∷ b) x l h.1

-- ROWS OF TWO MEMORIES
module _ (c d : Contents) where
  -- where mark x leads in c, it leads in d
  abbrev pub Same : ℕ → Type 0
  Same x = (y : ℕ) → Leads c x y → Leads d x y

  abbrev pub Each : List ℕ → Type 0
  Each [] = Unit {0}
  Each (x ∷ l) = Same x × Each l

  pub row_keep : (l : List ℕ) → Each l → Row c l → Row d l
  row_keep [] s h = absurd h
  row_keep (x ∷ []) s h = h
  row_keep (x ∷ y ∷ l) s h = (s.0 y h.0, row_keep (y ∷ l) s.1 h.1)

  -- what stands in front of a mark is kept, and what the mark begins may be another row
  pub row_front : (b : List ℕ) (x : ℕ) (l k : List ℕ) → Each b → (Row c (x ∷ l) → Row d (x ∷ k)) → Row c (b ++ x ∷ l) → Row d (b ++ x ∷ k)
  row_front [] x l k s f h = f h
  row_front (y ∷ []) x l k s f h = (s.0 x h.0, f h.1)
  row_front (y ∷ z ∷ b) x l k s f h = (s.0 z h.0, row_front (z ∷ b) x l k s.1 f h.1)
