-- WHERE A FINISH RETURNS A VIEW: the place along the line, and the task and the view that stand there in the words.
use Rattle.std.specs.Prelude.{◌≡◌, Bool, List, [], ◌∷◌, ◌++◌, ℕ, ◌+◌, ◌-◌, ◌<◌, ltb}
use Rattle.std.proofs.Math.Path.{refl, ap, sym}
use Rattle.std.proofs.Common.{◌∙◌, subst, arith}
use Rattle.std.proofs.Math.Bool.{true, false, false≢true}
use Rattle.spec_words.specs.Words.{pick}
use Rattle.spec_lists.specs.Counting.{occurrences, occurs_here}
use Rattle.spec_layout.specs.Layout.{RIGHT, CHILDREN}
use Rattle.spec_rules.specs.Contents.{decode}
use Rattle.spec_rules.specs.Rules.{Unfinished}
use Rattle.spec_rules.specs.Views.{View}
use Rattle.spec_outcomes.specs.Waits.{has_child}
use Rattle.spec_outcomes.specs.Views.{task_at, kind_at, returned_to}
use Rattle.spec_order.specs.Steps.{Task, Item, spot, number_of}
use Rattle.spec_lists.specs.Maps.{All, put_other, all_behind, all_at}
use Rattle.law_gaps.specs.Line.{nonlocal, local, Extent, vacant, extent, base, exited, entered, pass, Line, marks, exits, entries, Fits, Mode, Views, exiting, entering}
use Rattle.law_gaps.specs.Store.{Memory, Laid}
use Rattle.law_gaps.specs.Lines.{count_exits, count_entries}
use Rattle.law_gaps.proofs.Frames.{split}
use Rattle.law_gaps.specs.Moves.{Place, children_of, right_of, view_at, children_with, rights_with}
use Rattle.law_gaps.specs.Places.{Returns, In, latest_in, target_in}
use Rattle.law_gaps.proofs.Search.{first_of, task_exited, place_at, has_part as partTaken, stands_at as viewStands, Ends, latest_found, target_found}
use Rattle.law_gaps.proofs.Absent.{entered_marks, exited_marks}
use Rattle.law_gaps.proofs.Pool.{mine}
use Rattle.law_gaps.proofs.Splits.{small_entries}
use Rattle.law_links.specs.Marks.{mark_entered}
use Rattle.law_maps.specs.Meaning.{extent_of, view_in}
use Rattle.law_maps.specs.FinishTest.{returned_nonlocal, returned_local}
use Rattle.law_invariant.specs.Represents.{alive, queue_memory, uses_in, Represents}
use Rattle.law_invariant.specs.Views.{uses_small, children_word, right_word}
use Rattle.law_invariant.specs.Walks.{top_uses, marked}
use Rattle.law_invariant.specs.Live.{holds_at}
use Rattle.law_invariant.specs.FirstNamed.{task_there}
use Rattle.law_invariant_finish.specs.Leaf.{leaf}
use Rattle.law_invariant_finish.specs.Way.{Way}
use Rattle.law_invariant_finish.specs.Queue.{unfinished_live}
use Rattle.law_invariant_finish.specs.Back.{earlier_marks, earlier_ends, back_part, back_stand}

-- the tasks of a line have a right to the queue
exits_use : (uses : ℕ → Bool) (l : Line) → All (Fits uses) l → All (λ t. uses t ≡ true) (exits l)
exits_use uses [] h = tt
exits_use uses (base c ∷ l) h = exits_use uses l h.1
exits_use uses (exited t ∷ l) h = (h.0, exits_use uses l h.1)
exits_use uses (entered t c ∷ l) h = exits_use uses l h.1
exits_use uses (pass x ∷ l) h = exits_use uses l h.1

entries_use : (uses : ℕ → Bool) (l : Line) → All (Fits uses) l → All (λ t. uses t ≡ true) (entries l)
entries_use uses [] h = tt
entries_use uses (base c ∷ l) h = entries_use uses l h.1
entries_use uses (exited t ∷ l) h = entries_use uses l h.1
entries_use uses (entered t c ∷ l) h = (h.0, entries_use uses l h.1)
entries_use uses (pass x ∷ l) h = entries_use uses l h.1

module _ (m : List ℕ) (ys zs : List Item) (s : Task) (r : Represents m (ys ++ spot s ∷ zs)) (barren : has_child m (number_of s) ≡ false) (above : 0 < number_of s)
    (n : List ℕ) (holder : ℕ → ℕ) (line : ℕ → Line) (way : Way m n holder line) (q : ℕ) (small : q < 4)
    (b : Line) (c : List ℕ) (a : Line) (parts : line q ≡ b ++ (entered (number_of s) c ∷ (exited (number_of s) ∷ a)))
    (earlier : marks a ≡ (leaf m ys zs s r barren).earlier) where
  abbrev t : ℕ
  t = number_of s

  abbrev Old : List Item
  Old = ys ++ spot s ∷ zs

  abbrev Q : Memory
  Q = queue_memory n q

  was : Laid (mine Q.store (line q)) Q (holder q) (b ++ (entered t c ∷ (exited t ∷ a)))
  was = subst (Laid (mine Q.store (line q)) Q (holder q)) parts (way.laids.laid q small)

  fits : All (Fits (uses_in m q)) a
  fits = (all_behind (Fits (uses_in m q)) b (entered t c ∷ (exited t ∷ a)) (subst (All (Fits (uses_in m q))) parts (way.fits q small))).1.1

  earlier_views : (k : Mode) × Views Q.children Q.user Q.right a k
  earlier_views = go (split b (entered t c) (exited t ∷ a) was.views).1
    where
      go : {k : Mode} → Views Q.children Q.user Q.right (entered t c ∷ (exited t ∷ a)) k → (k : Mode) × Views Q.children Q.user Q.right a k
      go (entering v w e i f g (exiting {m = k} v' e' i' h)) = (k, h)

  ends : Ends (marks a)
  ends = subst Ends (sym earlier) (earlier_ends m ys zs s r barren above)

  -- THE MARK where the walk back for view v ends
  abbrev pub mark_of : Extent → ℕ
  mark_of vacant = 128
  mark_of (extent nonlocal y) = first_of (partTaken (uses_in m q)) (marks a)
  mark_of (extent (local x) y) = first_of (viewStands (uses_in m q) Q.children) (marks a)

  pub returns : (v : Extent) → Returns Q.children a v (place_at (mark_of v))
  returns vacant = tt
  returns (extent nonlocal y) =
      latest_found (uses_in m q) (top_uses m Old r q small) a earlier_views.1 fits (small_entries (uses_in m q) a (uses_small m q) fits) ends
  returns (extent (local x) y) =
      target_found (uses_in m q) (top_uses m Old r q small) Q.children a earlier_views.1 fits (small_entries (uses_in m q) a (uses_small m q) fits) ends

  -- by the words it is the same
  pub returned_at : (w : View) (v : Extent) → extent_of w ≡ v → (v ≡ vacant → ⊥) → returned_to n q t w ≡ mark_of v
  returned_at w vacant e some = absurd (some refl)
  returned_at w (extent nonlocal y) e some =
      returned_nonlocal n q t w y e ∙ back_part m ys zs s r barren above n holder line way q small ∙ ap (first_of (partTaken (uses_in m q))) (sym earlier)
  returned_at w (extent (local x) y) e some =
      returned_local n q t w x y e
      ∙ back_stand m ys zs s r barren above n holder line way q small
      ∙ ap (first_of (viewStands (uses_in m q) Q.children)) (sym earlier)

  inside : (v : Extent) → (v ≡ vacant → ⊥) → In (place_at (mark_of v)) a
  inside vacant some = absurd (some refl)
  inside (extent nonlocal y) some = latest_in (place_at (mark_of (extent nonlocal y))) (returns (extent nonlocal y))
  inside (extent (local x) y) some = target_in (place_at (mark_of (extent (local x) y))) (returns (extent (local x) y))

  -- A TASK u of the earlier part
  in_earlier : (x : ℕ) → 0 < occurrences x (marks a) → 0 < occurrences x r.tour
  in_earlier x p = earlier_marks m ys zs s r barren above x (subst (λ (l : List ℕ). 0 < occurrences x l) earlier p)

  pub record Other (u : ℕ) : Type 0 where
    pub range : u < 128
    pub other : u ≡ t → ⊥
    pub live : alive n u ≡ true
    pub there : 0 < occurrences u r.tour

  entered_other : (u : ℕ) → 0 < occurrences u (entries a) → Other u
  entered_other u p =
      let range = uses_small m q u (all_at (λ x. uses_in m q x ≡ true) (entries a) u (entries_use (uses_in m q) a fits) p) in
      let there = in_earlier u (let k = entered_marks u a in omega (arith, k, p)) in
      record {
        range = range;
        other = λ e.
            let d = (was.dist u).1 in
            let f = count_entries u b (entered t c ∷ (exited t ∷ a)) in
            let g = occurs_here t u (entries a) (sym e) in
            omega (arith, d, f, g, p);
        live = unfinished_live m Old r n holder line way u (task_there m Old r u range there);
        there = there;
      }

  exited_other : (u : ℕ) → 0 < occurrences u (exits a) → Other u
  exited_other u p =
      let k = subst (Unfinished (decode m)) (task_exited u) (marked m Old r (128 + u) (in_earlier (128 + u) (let k = exited_marks u a in omega (arith, k, p)))).1
      in
      record {
        range = uses_small m q u (all_at (λ x. uses_in m q x ≡ true) (exits a) u (exits_use (uses_in m q) a fits) p);
        other = λ e.
            let d = (was.dist u).0 in
            let f = count_exits u b (entered t c ∷ (exited t ∷ a)) in
            let g = occurs_here t u (exits a) (sym e) in
            omega (arith, d, f, g, p);
        live = unfinished_live m Old r n holder line way u k;
        there = mark_entered m r.tour Old r.linked u k;
      }

  abbrev Rest : Place → Type 0
  Rest p = (v : Extent) (x : ℕ) → uses_in m q x ≡ false → (children_with v p Q.children x ≡ Q.children x) × (rights_with v p Q.right x ≡ Q.right x)

  -- WHAT STANDS AT PLACE p: view k of task u
  pub record At (u k : ℕ) (p : Place) : Type 0 where
    pub task : Other u
    pub holds : holds_at (alive n) p
    pub view : view_at Q.children Q.right p ≡ view_in n q k u
    -- what is reduced into it leaves the tasks without a right alone
    pub rest : Rest p

  at_right : (u : ℕ) → 0 < occurrences u (entries a) → At u RIGHT (right_of u)
  unfolding holds_at
  at_right u p =
      let o = entered_other u p in
      record { task = o; holds = o.live; view = sym (right_word n q u o.live); rest = rest }
    where
      rest : Rest (right_of u)
      rest vacant x e = (refl, refl)
      rest (extent g y) x e = (
        refl,
        put_other Q.right u _ x
            (λ d. false≢true (sym e ∙ ap (uses_in m q) d ∙ all_at (λ x. uses_in m q x ≡ true) (entries a) u (entries_use (uses_in m q) a fits) p)),
      )

  at_children : (u : ℕ) → 0 < occurrences u (exits a) → At u CHILDREN (children_of u)
  unfolding holds_at
  at_children u p =
      let o = exited_other u p in
      record { task = o; holds = o.live; view = sym (children_word n q u o.live); rest = rest }
    where
      rest : Rest (children_of u)
      rest vacant x e = (refl, refl)
      rest (extent g y) x e = (
        put_other Q.children u _ x
            (λ d. false≢true (sym e ∙ ap (uses_in m q) d ∙ all_at (λ x. uses_in m q x ≡ true) (exits a) u (exits_use (uses_in m q) a fits) p)),
        refl,
      )

  at_place : (x : ℕ) → In (place_at x) a → At (task_at x) (kind_at x) (place_at x)
  unfolding task_at kind_at place_at pick
  at_place x i = go (ltb x 128) i
    where
      go : (y : Bool) → In (pick y (right_of x) (children_of (x - 128))) a
          → At (pick y x (x - 128)) (pick y RIGHT CHILDREN) (pick y (right_of x) (children_of (x - 128)))
      go true j = at_right x j
      go false j = at_children (x - 128) j

  pub target_at : (v : Extent) → (v ≡ vacant → ⊥) → At (task_at (mark_of v)) (kind_at (mark_of v)) (place_at (mark_of v))
  target_at v some = at_place (mark_of v) (inside v some)
