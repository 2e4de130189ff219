-- FINISH, FROM QUEUE TO QUEUE: the queues that have had their turn stand as after the finish, the others as before it.
use Rattle.std.specs.Prelude.{◌≡◌, refl, Bool, true, false, List, ◌∷◌, ◌++◌, ℕ, ◌+◌, ◌<◌}
use Rattle.std.proofs.Math.Path.{ap}
use Rattle.std.proofs.Common.{sym, ◌∙◌, subst, inr, ⊎_elim, arith, lt-ltb}
use Rattle.spec_words.specs.Words.{both_on}
use Rattle.spec_lists.specs.Counting.{occurrences, occurs_append, occurs_past, equal?}
use Rattle.spec_tree.specs.Rights.{uses}
use Rattle.spec_outcomes.specs.Waits.{has_child}
use Rattle.spec_outcomes.specs.Finish.{finishes as allows, finished_queue}
use Rattle.spec_order.specs.Steps.{Task, Item, spot, finishes, number_of, rights_of, advance}
use Rattle.spec_order.specs.Waits.{blocked}
use Rattle.law_order_waits.specs.Played.{Played}
use Rattle.spec_lists.specs.Maps.{put, put_same, put_other}
use Rattle.law_gaps.specs.Line.{Line, marks}
use Rattle.law_links.specs.Waits.{same_rights}
use Rattle.law_invariant.specs.Represents.{queue_memory, uses_in, Represents}
use Rattle.law_invariant.specs.Walks.{marked}
use Rattle.law_invariant.specs.At.{mine_spot, task_unfinished}
use Rattle.law_invariant.specs.FirstNamed.{task_exited}
use Rattle.law_invariant.specs.Covered.{Covered, Vacant, AllOrNone, by_marks}
use Rattle.law_invariant_finish.specs.Leaf.{Leaf, leaf, with_right}
use Rattle.law_invariant_finish.specs.Way.{Standing, AllStand, at_queue, Turn, turn, turn_other, turn_here, turn_gone, turn_vacant}
use Rattle.law_invariant_finish.specs.Change.{Turned}
use Rattle.law_invariant_finish.specs.FinishRight.{views_turn}
use Rattle.law_invariant_finish.specs.QueueView.{queue_turn}
use Rattle.law_invariant_finish.specs.FinishPast.{past_allowed, past_turn}
use Rattle.law_invariant_finish.specs.FinishAllowed.{queue_allowed}

module _ (m : List ℕ) (ys zs : List Item) (s : Task) (r : Represents m (ys ++ spot s ∷ zs)) (barren : has_child m (number_of s) ≡ false) where
  abbrev t : ℕ
  t = number_of s

  abbrev Old : List Item
  Old = ys ++ spot s ∷ zs

  abbrev New : List Item
  New = advance t finishes Old

  abbrev here : Leaf m ys zs s r barren
  here = leaf m ys zs s r barren

  -- the tour without the task
  abbrev pub Rest : List ℕ
  Rest = here.later ++ here.earlier

  below : t < 128
  below = (task_unfinished m ys zs s r).0

  -- QUEUE q in the words n: it has not had its turn yet, or it has had it and t has no view there
  abbrev pub Now : List ℕ → Bool → ℕ → ℕ → Line → Type 0
  Now n true q h l = Standing n Old r.tour q h l
  Now n false q h l = Standing n New Rest q h l × Vacant (queue_memory n q) t

  abbrev pub Stage : List ℕ → (ℕ → Bool) → Type 0
  Stage n yet = AllStand m n (λ q h l. Now n (yet q) q h l)

  -- EVERY TASK OF THE TOUR has all its views of a queue in the line, or none
  in_rest : (x : ℕ) → (x ≡ t → ⊥) → (x ≡ 128 + t → ⊥) → 0 < occurrences x r.tour → 0 < occurrences x Rest
  in_rest x a b p =
      let e = ap (occurrences x) here.here ∙ occurs_append x here.later (t ∷ (128 + t) ∷ here.earlier) in
      let f = occurs_past t x ((128 + t) ∷ here.earlier) (λ d. a (sym d)) in
      let g = occurs_past (128 + t) x here.earlier (λ d. b (sym d)) in
      let k = occurs_append x here.later here.earlier in
      omega (arith, e, f, g, k, p)

  covered : (n : List ℕ) (yet : ℕ → Bool) (A : Stage n yet) (p : ℕ) → p < 4 → Covered (queue_memory n p) r.tour (A.line p)
  covered n yet A p i x l k = go (yet p) (A.stands p i)
    where
      marked : (T : List ℕ) → marks (A.line p) ≡ T → 0 < occurrences x T → 0 < occurrences (128 + x) T → AllOrNone (queue_memory n p) (A.line p) x
      marked T e a b =
          by_marks m p (queue_memory n p) (A.line p) (A.way.fits p i) (A.way.bare p i) x l
          (subst (λ (j : List ℕ). 0 < occurrences x j) (sym e) a) (subst (λ (j : List ℕ). 0 < occurrences (128 + x) j) (sym e) b)

      go : (c : Bool) → Now n c p (A.holder p) (A.line p) → AllOrNone (queue_memory n p) (A.line p) x
      go true w = marked r.tour w.marked k (task_exited m Old r x l k)
      go false w =
          ⊎_elim
          (λ e. inr (subst (Vacant (queue_memory n p)) (sym e) w.1))
          (λ e.
          let b = below in
          marked Rest w.0.marked
          (in_rest x e (λ d. omega (arith, d, l)) k)
          (in_rest (128 + x) (λ d. omega (arith, d, b)) (λ d. e (omega (arith, d))) (task_exited m Old r x l k)))
          (equal? x t)

  pub uses_is : (q : ℕ) → uses_in m q t ≡ uses (rights_of s) q
  unfolding uses_in
  uses_is q = both_on (lt-ltb t 128 below) ∙ ap (λ (x : ℕ). uses x q) (same_rights m r.tour Old r.played r.linked s (mine_spot m ys zs s r))

  module _ (above : 0 < number_of s) (n : List ℕ) (yet : ℕ → Bool) (A : Stage n yet) (q : ℕ) (small : q < 4) (due : yet q ≡ true) where
    abbrev n' : List ℕ
    n' = finished_queue n t q

    stands : Standing n Old r.tour q (A.holder q) (A.line q)
    stands = subst (λ (c : Bool). Now n c q (A.holder q) (A.line q)) due (A.stands q small)

    -- THE PAPER HAS THE REDUCTIONS
    pub turn_allowed : allows n t q ≡ true
    turn_allowed = go (uses_in m q t) refl
      where
        go : (c : Bool) → uses_in m q t ≡ c → allows n t q ≡ true
        go true u =
            let p = with_right m ys zs s r barren q (A.line q) (A.way.laids.laid q small).views (A.way.fits q small) stands.marked u in
            queue_allowed m ys zs s r barren above n A.holder A.line A.way (covered n yet A) q small stands.first p.0 p.1 p.2 p.3 p.5
        go false u = past_allowed m ys zs s r barren n A.holder A.line A.way q small stands u (sym (uses_is q) ∙ u)

    module _ (free : blocked (number_of s) Old ≡ false) (play : Played New) where
      turned : Turned m n t q (A.line q) New Rest
      turned = go (uses_in m q t) refl
        where
          go : (c : Bool) → uses_in m q t ≡ c → Turned m n t q (A.line q) New Rest
          go true u =
              queue_turn m ys zs s r above free play n A.holder A.line A.way q small stands.first Rest
              (views_turn m ys zs s r barren above n A.holder A.line A.way (covered n yet A) q small stands u (sym (uses_is q) ∙ u))
          go false u = past_turn m ys zs s r barren n A.holder A.line A.way q small stands u (sym (uses_is q) ∙ u)

      abbrev c : Turn m n n' q (A.line q) turned.heir
      c = turned.change.turn

      here_now : Now n' false q turned.heir c.line
      here_now = (
        turn_here m n A.holder A.line A.way q small n' turned.heir c New Rest turned.change.marked turned.first turned.change.time,
        turn_gone m n A.holder A.line A.way q small n' turned.heir c t turned.change.gone,
      )

      other_now : (p : ℕ) → p < 4 → (p ≡ q → ⊥) → (b : Bool) → Now n b p (A.holder p) (A.line p) → Now n' b p (A.holder p) (A.line p)
      other_now p i k true w =
          turn_other m n A.holder A.line A.way q small n' turned.heir c Old r.tour p i k w
      other_now p i k false w = (
        turn_other m n A.holder A.line A.way q small n' turned.heir c New Rest p i k w.0,
        turn_vacant m n A.holder A.line A.way q small n' turned.heir c p i k t w.1,
      )

      -- THE TURN OF QUEUE q
      pub finish_turn : Stage n' (put yet q false)
      finish_turn =
          record {
            holder = put A.holder q turned.heir;
            line = put A.line q c.line;
            way = turn m n A.holder A.line A.way q small n' turned.heir c;
            stands = at_queue (λ p x l. Now n' (put yet q false p) p x l) A.holder A.line q turned.heir c.line
                (subst (λ (b : Bool). Now n' b q turned.heir c.line) (sym (put_same yet q false)) here_now)
                (λ p i k.
                subst (λ (b : Bool). Now n' b p (A.holder p) (A.line p)) (sym (put_other yet q false p k)) (other_now p i k (yet p) (A.stands p i)));
          }
