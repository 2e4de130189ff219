-- FROM THE MARKS OF THE TOUR TO THE LINE: where a task's marks stand in the tour, the line parts there.
use Rattle.std.proofs.Math.Path.{◌≡◌, ap}
use Rattle.std.specs.Prelude.{refl, Bool, true, false, ℕ, ◌+◌, ◌<◌}
use Rattle.std.proofs.Common.{sym, ◌∙◌, subst, arith}
use Rattle.std.proofs.lemmas.Bool.{false≢true}
use mathlib.Core.List.{List, [], ◌∷◌, ◌++◌, head-eq_of_cons-eq, tail-eq_of_cons-eq}
use Rattle.spec_lists.specs.Maps.{All, all_behind}
use Rattle.law_gaps.specs.Line.{Extent, Mark, base, exited, entered, pass, Line, marks, entries, Fits, Mode, Views, queue, exiting, entering, passing}
use Rattle.law_gaps.proofs.Frames.{split}
use Rattle.law_gaps.proofs.Search.{task_at, task_entered, task_exited}

-- THE LINE PARTS at mark y of the tour: what is later, the mark with the number y, what is earlier.
pub record Parted (l : Line) (xs : List ℕ) (y : ℕ) (ys : List ℕ) : Type 0 where
  pub later : Line
  pub mark : Mark
  pub earlier : Line
  pub parts : l ≡ later ++ (mark ∷ earlier)
  pub later_marks : marks later ≡ xs
  pub number : marks (mark ∷ []) ≡ y ∷ []
  pub earlier_marks : marks earlier ≡ ys

-- the same with one mark more in front
more : (z : Mark) {l : Line} {xs xs' ys : List ℕ} {y : ℕ} → ((a : Line) → marks (z ∷ a) ≡ marks (z ∷ []) ++ marks a) → marks (z ∷ []) ++ xs ≡ xs'
    → Parted l xs y ys → Parted (z ∷ l) xs' y ys
more z {xs = xs} f e r = record {
  later = z ∷ r.later;
  mark = r.mark;
  earlier = r.earlier;
  parts = ap (λ (l : Line). z ∷ l) r.parts;
  later_marks = f r.later ∙ (ap (λ (k : List ℕ). marks (z ∷ []) ++ k) r.later_marks ∙ e);
  number = r.number;
  earlier_marks = r.earlier_marks;
}

first : (z : Mark) (l : Line) (x y : ℕ) (ys : List ℕ) → marks (z ∷ []) ≡ x ∷ [] → x ∷ marks l ≡ y ∷ ys → Parted (z ∷ l) [] y ys
first z l x y ys f e = record {
  later = [];
  mark = z;
  earlier = l;
  parts = refl;
  later_marks = refl;
  number = f ∙ ap (λ (k : ℕ). k ∷ []) (head-eq_of_cons-eq e);
  earlier_marks = tail-eq_of_cons-eq e;
}

pub part : (l : Line) (xs : List ℕ) (y : ℕ) (ys : List ℕ) → marks l ≡ xs ++ (y ∷ ys) → Parted l xs y ys
part [] [] y ys e = let z : ◌≡◌ {A = ℕ} 0 1 = cc in absurd (omega (arith, z))
part [] (x ∷ xs) y ys e = let z : ◌≡◌ {A = ℕ} 0 1 = cc in absurd (omega (arith, z))
part (base c ∷ l) xs y ys e = more (base c) (λ a. refl) refl (part l xs y ys e)
part (exited t ∷ l) [] y ys e = first (exited t) l (128 + t) y ys refl e
part (exited t ∷ l) (x ∷ xs) y ys e = more (exited t) (λ a. refl) (ap (λ (k : ℕ). k ∷ xs) (head-eq_of_cons-eq e)) (part l xs y ys (tail-eq_of_cons-eq e))
part (entered t c ∷ l) [] y ys e = first (entered t c) l t y ys refl e
part (entered t c ∷ l) (x ∷ xs) y ys e = more (entered t c) (λ a. refl) (ap (λ (k : ℕ). k ∷ xs) (head-eq_of_cons-eq e)) (part l xs y ys (tail-eq_of_cons-eq e))
part (pass w ∷ l) [] y ys e = first (pass w) l w y ys refl e
part (pass w ∷ l) (x ∷ xs) y ys e = more (pass w) (λ a. refl) (ap (λ (k : ℕ). k ∷ xs) (head-eq_of_cons-eq e)) (part l xs y ys (tail-eq_of_cons-eq e))

-- the first mark of a line
front : {children user right : ℕ → Extent} {n : Mode} (l : Line) (y : ℕ) (ys : List ℕ) → Views children user right l n → marks l ≡ y ∷ ys
    → (z : Mark) × (a : Line) × (l ≡ z ∷ a) × (marks (z ∷ []) ≡ y ∷ []) × (marks a ≡ ys)
front [] y ys v h = elim v [ ]
front (base c ∷ l) y ys (queue e) h = let z : ◌≡◌ {A = ℕ} 0 1 = cc in absurd (omega (arith, z))
front (exited t ∷ l) y ys (exiting v e i r) h = (exited t, l, refl, ap (λ (k : ℕ). k ∷ []) (head-eq_of_cons-eq h), tail-eq_of_cons-eq h)
front (entered t c ∷ l) y ys (entering v w e i f b r) h = (entered t c, l, refl, ap (λ (k : ℕ). k ∷ []) (head-eq_of_cons-eq h), tail-eq_of_cons-eq h)
front (pass x ∷ l) y ys (passing r) h = (pass x, l, refl, ap (λ (k : ℕ). k ∷ []) (head-eq_of_cons-eq h), tail-eq_of_cons-eq h)

earlier_views : {children user right : ℕ → Extent} {n : Mode} (z : Mark) (a : Line) (y : ℕ) (ys : List ℕ) → Views children user right (z ∷ a) n
    → marks a ≡ y ∷ ys
    → (m : Mode) × Views children user right a m
earlier_views (base c) a y ys (queue e) h = let z : ◌≡◌ {A = ℕ} 0 1 = cc in absurd (omega (arith, z))
earlier_views (exited t) a y ys (exiting {m = m} v e i r) h = (m, r)
earlier_views (entered t c) a y ys (entering {m = m} v w e i f b r) h = (m, r)
earlier_views (pass x) a y ys (passing {m = m} r) h = (m, r)

-- WHICH MARK IT IS, in a line that has views for the tasks with a right, all below 128
module _ (uses : ℕ → Bool) where
  abbrev pub Proper : Mark → Type 0
  Proper z = Fits uses z × All (λ x. x < 128) (entries (z ∷ []))

  pub all_proper : (l : Line) → All (Fits uses) l → All (λ x. x < 128) (entries l) → All Proper l
  all_proper [] h s = tt
  all_proper (base c ∷ l) h s = ((tt, tt), all_proper l h.1 s)
  all_proper (exited t ∷ l) h s = ((h.0, tt), all_proper l h.1 s)
  all_proper (entered t c ∷ l) h s = ((h.0, (s.0, tt)), all_proper l h.1 s.1)
  all_proper (pass x ∷ l) h s = ((h.0, tt), all_proper l h.1 s)

  -- the tasks of a line are below 128 where no other number has a right
  pub small_entries : (l : Line) → ((t : ℕ) → uses t ≡ true → t < 128) → All (Fits uses) l → All (λ x. x < 128) (entries l)
  small_entries [] s h = tt
  small_entries (base c ∷ l) s h = small_entries l s h.1
  small_entries (exited t ∷ l) s h = small_entries l s h.1
  small_entries (entered t c ∷ l) s h = (s t h.0, small_entries l s h.1)
  small_entries (pass x ∷ l) s h = small_entries l s h.1

  is_entered : (t : ℕ) → t < 128 → uses t ≡ true → (z : Mark) → Proper z → marks (z ∷ []) ≡ t ∷ [] → (c : List ℕ) × (z ≡ entered t c)
  unfolding task_at
  is_entered t s u (base c) h e = let z : ◌≡◌ {A = ℕ} 0 1 = cc in absurd (omega (arith, z))
  is_entered t s u (exited x) h e = let q = head-eq_of_cons-eq e in absurd (omega (arith, q, s))
  is_entered t s u (entered x c) h e = (c, ap (λ (k : ℕ). entered k c) (head-eq_of_cons-eq e))
  is_entered t s u (pass x) h e =
      absurd (false≢true (sym h.0 ∙ (ap (λ (k : ℕ). uses (task_at k)) (head-eq_of_cons-eq e) ∙ (ap uses (task_entered t s) ∙ u))))

  is_exited : (t : ℕ) → uses t ≡ true → (z : Mark) → Proper z → marks (z ∷ []) ≡ (128 + t) ∷ [] → z ≡ exited t
  unfolding task_at
  is_exited t u (base c) h e = let z : ◌≡◌ {A = ℕ} 0 1 = cc in absurd (omega (arith, z))
  is_exited t u (exited x) h e = let q = head-eq_of_cons-eq e in ap exited (let z : x ≡ t = omega (arith, q) in z)
  is_exited t u (entered x c) h e = let q = head-eq_of_cons-eq e in absurd (omega (arith, q, h.1.0))
  is_exited t u (pass x) h e =
      absurd (false≢true (sym h.0 ∙ (ap (λ (k : ℕ). uses (task_at k)) (head-eq_of_cons-eq e) ∙ (ap uses (task_exited t) ∙ u))))

  is_pass : (y : ℕ) → uses (task_at y) ≡ false → (z : Mark) → Proper z → marks (z ∷ []) ≡ y ∷ [] → z ≡ pass y
  is_pass y u (base c) h e = let z : ◌≡◌ {A = ℕ} 0 1 = cc in absurd (omega (arith, z))
  is_pass y u (exited x) h e =
      absurd (false≢true (sym u ∙ (ap (λ (k : ℕ). uses (task_at k)) (sym (head-eq_of_cons-eq e)) ∙ (ap uses (task_exited x) ∙ h.0))))
  is_pass y u (entered x c) h e =
      absurd (false≢true (sym u ∙ (ap (λ (k : ℕ). uses (task_at k)) (sym (head-eq_of_cons-eq e)) ∙ (ap uses (task_entered x h.1.0) ∙ h.0))))
  is_pass y u (pass x) h e = ap pass (head-eq_of_cons-eq e)

  -- AT ONE MARK: the spot of a task with a right; a mark of a task without
  pub entered_part : (l : Line) → All Proper l → (t : ℕ) (xs ys : List ℕ) → t < 128 → uses t ≡ true → marks l ≡ xs ++ (t ∷ ys)
      → (b : Line) × (c : List ℕ) × (a : Line) × (l ≡ b ++ (entered t c ∷ a)) × (marks b ≡ xs) × (marks a ≡ ys)
  entered_part l h t xs ys s u e =
      let p = part l xs t ys e in
      let i = is_entered t s u p.mark (all_behind Proper p.later (p.mark ∷ p.earlier) (subst (All Proper) p.parts h)).0 p.number in
      (p.later, i.0, p.earlier, p.parts ∙ ap (λ (z : Mark). p.later ++ (z ∷ p.earlier)) i.1, p.later_marks, p.earlier_marks)

  pub pass_part : (l : Line) → All Proper l → (y : ℕ) (xs ys : List ℕ) → uses (task_at y) ≡ false → marks l ≡ xs ++ (y ∷ ys)
      → (b : Line) × (a : Line) × (l ≡ b ++ (pass y ∷ a)) × (marks b ≡ xs) × (marks a ≡ ys)
  pass_part l h y xs ys u e =
      let p = part l xs y ys e in
      let i = is_pass y u p.mark (all_behind Proper p.later (p.mark ∷ p.earlier) (subst (All Proper) p.parts h)).0 p.number in
      (p.later, p.earlier, p.parts ∙ ap (λ (z : Mark). p.later ++ (z ∷ p.earlier)) i, p.later_marks, p.earlier_marks)

  -- the mark beside
  beside : {children user right : ℕ → Extent} {n : Mode} (l b : Line) (z : Mark) (a : Line) (y : ℕ) (ys : List ℕ) → l ≡ b ++ (z ∷ a)
      → Views children user right l n → All Proper l → marks a ≡ y ∷ ys
      → (w : Mark) × (k : Line) × (a ≡ w ∷ k) × Proper w × (marks (w ∷ []) ≡ y ∷ []) × (marks k ≡ ys)
  beside {children} {user} {right} {n} l b z a y ys p v h e =
      go (front a y ys (earlier_views z a y ys (split b z a (subst (λ k. Views children user right k n) p v)).1 e).1 e)
    where
      go : (w : Mark) × (k : Line) × (a ≡ w ∷ k) × (marks (w ∷ []) ≡ y ∷ []) × (marks k ≡ ys)
          → (w : Mark) × (k : Line) × (a ≡ w ∷ k) × Proper w × (marks (w ∷ []) ≡ y ∷ []) × (marks k ≡ ys)
      go f = (f.0, f.1, f.2, (subst (All Proper) f.2 (all_behind Proper b (z ∷ a) (subst (All Proper) p h)).1).0, f.3, f.4)

  -- A TASK WITHOUT CHILDREN is entered and exited side by side.
  module _ {children user right : ℕ → Extent} {n : Mode} (l : Line) (views : Views children user right l n) (h : All Proper l)
      (t : ℕ) (xs ys : List ℕ) (small : t < 128) (e : marks l ≡ xs ++ (t ∷ ((128 + t) ∷ ys))) where
    pub entered_leaf : uses t ≡ true
        → (b : Line) × (c : List ℕ) × (a : Line) × (l ≡ b ++ (entered t c ∷ (exited t ∷ a))) × (marks b ≡ xs) × (marks a ≡ ys)
    entered_leaf u = go (entered_part l h t xs ((128 + t) ∷ ys) small u e)
      where
        go : (b : Line) × (c : List ℕ) × (a : Line) × (l ≡ b ++ (entered t c ∷ a)) × (marks b ≡ xs) × (marks a ≡ (128 + t) ∷ ys)
            → (b : Line) × (c : List ℕ) × (a : Line) × (l ≡ b ++ (entered t c ∷ (exited t ∷ a))) × (marks b ≡ xs) × (marks a ≡ ys)
        go (b, c, a, p, f, g) =
            let q = beside l b (entered t c) a (128 + t) ys p views h g in
            let i = is_exited t u q.0 q.3 q.4 in
            (b, c, q.1, p ∙ ap (λ (k : Line). b ++ (entered t c ∷ k)) (q.2 ∙ ap (λ (z : Mark). z ∷ q.1) i), f, q.5)

    pub pass_leaf : uses t ≡ false → (b : Line) × (a : Line) × (l ≡ b ++ (pass t ∷ (pass (128 + t) ∷ a))) × (marks b ≡ xs) × (marks a ≡ ys)
    pass_leaf u = go (pass_part l h t xs ((128 + t) ∷ ys) (ap uses (task_entered t small) ∙ u) e)
      where
        go : (b : Line) × (a : Line) × (l ≡ b ++ (pass t ∷ a)) × (marks b ≡ xs) × (marks a ≡ (128 + t) ∷ ys)
            → (b : Line) × (a : Line) × (l ≡ b ++ (pass t ∷ (pass (128 + t) ∷ a))) × (marks b ≡ xs) × (marks a ≡ ys)
        go (b, a, p, f, g) =
            let q = beside l b (pass t) a (128 + t) ys p views h g in
            let i = is_pass (128 + t) (ap uses (task_exited t) ∙ u) q.0 q.3 q.4 in
            (b, q.1, p ∙ ap (λ (k : Line). b ++ (pass t ∷ k)) (q.2 ∙ ap (λ (z : Mark). z ∷ q.1) i), f, q.5)
