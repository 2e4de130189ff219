-- MOVES THAT FIND: a task that looks in a queue and need not wait moves along the line and finds what program order says.
use Rattle.std.proofs.Math.Path.{◌≡◌, ap, subst}
use Rattle.std.specs.Prelude.{refl, Bool, ℕ, ◌<◌}
use Rattle.std.proofs.Common.{sym, ◌∙◌, arith, ltb-true, ne_eqb}
use Rattle.std.proofs.Math.Logic.{⊎_elim}
use Rattle.std.proofs.Math.Bool.{true, false}
use Rattle.std.proofs.Math.Option.{Option, none, some}
use mathlib.Core.List.{List, [], ◌∷◌, ◌++◌}
use Rattle.spec_words.specs.Words.{pick, pass, both_true}
use Rattle.spec_lists.specs.Counting.{equal?}
use Rattle.spec_tree.specs.Rights.{pops as mayPop}
use Rattle.spec_answers.specs.declared.Finding.TheVariants.{Value, Empty}
use Rattle.spec_order.specs.Steps.{Item as Mark, pops, tests, advance, number_of, rights_of}
use Rattle.spec_order.specs.Finding.{finding}
use Rattle.law_order.specs.Moves.{plain_pop, plain_test}
use Rattle.law_order_waits.specs.Played.{Played, played_reached}
use Rattle.law_order_queue.specs.Points.{added, takes, Timeline}
use Rattle.law_order_queue.specs.Laws.{plain_line, pop_line}
use Rattle.spec_lists.specs.Maps.{All}
use Rattle.spec_plain.specs.Stack.{rights_of as jobRights}
use Rattle.spec_line.specs.Line.{Item, spot, looks}
use Rattle.law_job_line.specs.Tasks.{can_pop, Runner, going_on, action}
use Rattle.spec_tree.specs.Users.{pops_uses}
use Rattle.law_job_order.specs.Beside.{Numbered, standing, task_of, points_of, Beside}
use Rattle.law_job_order.specs.After.{After}
use Rattle.law_job_order.specs.Located.{located}
use Rattle.law_job_order.specs.Steps.{points_same, Old, single, time, stepped, plain_places, plain_beside}
use Rattle.law_job_order.specs.Instructions.{instruction}
use Rattle.law_job_order.specs.Searches.{NoPoint, FirstValue, first_value, first_nothing}
use Rattle.law_job_order.specs.Kept.{kept, standing_kept, points_taken, points_other}
use Rattle.law_job_order.specs.Found.{others, Meets, meets}
use Rattle.law_job_order.specs.Puts.{on, goes_same}
use Rattle.law_job_order.specs.Looks.{nothing_after, value_after}

-- A MOVE of task n that looks in queue w
module _ (j : List ℕ) {xs : List Mark} (played : Played xs) (a b : List (Item Numbered)) (n : Numbered) (h : Beside j xs (a ++ spot n ∷ b)) (w x : ℕ) where
  abbrev u : Runner
  u = n.runner

  -- the task after instruction number k, where it found f
  abbrev next : ℕ → Option ℕ → Numbered
  next k f = on n (going_on u (instruction k w x) f)

  -- w is a queue, and the task may pop from it
  abbrev Right : Type 0
  Right = (w < 4) × (mayPop (rights_of (task_of j n)) w ≡ true)

  right : can_pop (jobRights j u.task) w ≡ true → Right
  unfolding can_pop task_of rights_of
  right e = let d = both_true _ _ e in (ltb-true w 4 d.0, d.1)

  -- what is found
  value_found : (v : ℕ) → Right → finding n.number w xs ≡ Value v → Meets j played a b n h w (Value v)
  unfolding task_of number_of
  value_found v r e = meets j played a b n h w (Value v) r.0 r.1 (λ d. let z : ◌≡◌ {A = ℕ} 0 1 = cc in omega (arith, z)) e

  first_found : (v : ℕ) → Right → Meets j played a b n h w (Value v) → FirstValue j w v a
  first_found v r m = first_value j w b n (pops_uses (rights_of (task_of j n)) w r.1) v a m.quiet m.first

  nothing_found : Right → finding n.number w xs ≡ Empty → All (NoPoint j w) a
  unfolding task_of number_of
  nothing_found r e =
      let m = meets j played a b n h w Empty r.0 r.1 (λ d. let z : ◌≡◌ {A = ℕ} 0 1 = cc in omega (arith, z)) e in
      first_nothing j w b n (pops_uses (rights_of (task_of j n)) w r.1) a (others j played a b n h) m.first

  -- the pop that takes the first value
  pop_beside : (v : ℕ) (m : Numbered) → Right → Meets j played a b n h w (Value v) → (f : FirstValue j w v a) → task_of j m ≡ task_of j n
      → Beside j (advance n.number (pops w) xs) (kept w v f.front f.back false ++ spot m ∷ b)
  unfolding standing
  pop_beside v m r entering f e =
      stepped j (played_reached played) a b n h (pops w) (kept w v f.front f.back false) (spot m ∷ [])
      (standing_kept w v f.front f.back false ∙ ap standing (sym f.parts))
      (plain_places j (played_reached played) a b n h (pops w) m (plain_pop w) e)
      (λ q i. ⊎_elim (λ d. subst New d popped) (λ d. past q i d) (equal? w q))
    where
      Steps : List Mark
      Steps = Old j (played_reached played) a b n h

      line : Bool → List (Item Numbered)
      line c = kept w v f.front f.back c ++ spot m ∷ b

      New : ℕ → Type 0
      New q = Timeline q (advance (number_of (task_of j n)) (pops w) Steps) (points_of j q (line false))

      -- the points before the pop
      points : (q : ℕ) → points_of j q (a ++ spot n ∷ b) ≡ points_of j q (line true)
      points q = sym (points_same j q m n a b e) ∙ ap (λ (l : List (Item Numbered)). points_of j q (l ++ spot m ∷ b)) f.parts

      popped : New w
      popped =
          pop_line w (located j a b n h).before (located j a b n h).behind (task_of j n) (single j (played_reached played) a b n h) v
          (points_of j w (line false)) r.1 entering.free
          (subst (Timeline w Steps) (points w ∙ points_taken w v f.front f.back j (spot m ∷ b) f.bare)
          (time j (played_reached played) a b n h w r.0))

      past : (q : ℕ) → q < 4 → (w ≡ q → ⊥) → New q
      past q i d =
          plain_line q (located j a b n h).before (located j a b n h).behind (task_of j n) (single j (played_reached played) a b n h) (pops w)
          (plain_pop w) (unfold added in refl) (unfold takes in pass _ (ne_eqb w q d) refl)
          (subst (Timeline q Steps) (points q ∙ points_other w v f.front f.back j (spot m ∷ b) q d) (time j (played_reached played) a b n h q i))

  -- OPERATION NUMBER k looks in queue w, and leaves the value queued or takes it.
  module _ (k : ℕ) (keep : Bool) (held : can_pop (jobRights j u.task) w ≡ true) (looking : action j u ≡ looks keep w (λ f. spot (next k f).runner ∷ [])) where
    unmoved : (f : Option ℕ) → Beside j (advance n.number (tests w) xs) (a ++ spot (next k f) ∷ b)
    unfolding added takes
    unmoved f = plain_beside j (played_reached played) a b n h (tests w) (next k f) (plain_test w) (λ q. (refl, refl)) (goes_same j n k w x f)

    left : (v : ℕ) → Meets j played a b n h w (Value v) → (f : FirstValue j w v a) (c : Bool)
        → Beside j (advance n.number (pick c (tests w) (pops w)) xs) (kept w v f.front f.back c ++ spot (next k (some v)) ∷ b)
    unfolding pick
    left v m f true =
        subst (λ (l : List (Item Numbered)). Beside j (advance n.number (tests w) xs) (l ++ spot (next k (some v)) ∷ b)) f.parts (unmoved (some v))
    left v m f false = pop_beside v (next k (some v)) (right held) m f (goes_same j n k w x (some v))

    pub value_found_after : (v : ℕ) → finding n.number w xs ≡ Value v
        → After j (advance n.number (pick keep (tests w) (pops w)) xs) a b n (next k (some v) ∷ []) (some v)
    value_found_after v e =
        let m = value_found v (right held) e in
        let f = first_found v (right held) m in
        value_after j a b n keep w (going_on u (instruction k w x)) looking v f (left v m f keep)

    -- a step without effect on the queue
    pub none_found_after : finding n.number w xs ≡ Empty → After j (advance n.number (tests w) xs) a b n (next k none ∷ []) none
    none_found_after e = nothing_after j a b n keep w (going_on u (instruction k w x)) looking (nothing_found (right held) e) (unmoved none)
