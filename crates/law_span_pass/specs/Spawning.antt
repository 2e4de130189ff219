-- A CHILD IS MADE: what the words hold then. Nothing finished is under it, and its older siblings are its spawner's finished children.
use Rattle.std.specs.Prelude.{◌≡◌, refl, Bool, true, false, ℕ, suc, ◌+◌, ◌<◌, ◌≤◌, length}
use Rattle.std.proofs.Math.Path.{ap, ap₂, sym}
use Rattle.std.proofs.Common.{◌∙◌}
use mathlib.Core.List.{List, [], ◌∷◌, tail-eq_of_cons-eq}
use native.Mathlib.Omega.{arith}
use Rattle.spec_words.specs.Words.{load, size, pick, both, either, both_off, same_test, refuted}
use Rattle.spec_words.specs.Blocks.{block_same, block_other, size_store_all}
use Rattle.spec_tree.specs.Rights.{pops, shares_pop, some_queue}
use Rattle.spec_tree.specs.Queues.{by_four}
use Rattle.spec_order.specs.Steps.{Name}
use Rattle.spec_order.specs.Waits.{is_child, is_older}
use Rattle.law_order.specs.Names.{Under}
use Rattle.law_order_waits.specs.Spots.{child_says, older_says, says_child, says_older}
use Rattle.spec_plain.specs.Stack.{rights_of}
use Rattle.spec_line.specs.Later.{later}
use Rattle.law_timed_line.specs.Times.{Timed}
use Rattle.law_job_line.specs.Tasks.{Runner}
use Rattle.law_serial_times.specs.Ended.{Over, Among, ended}
use Rattle.law_serial_times.specs.Dominated.{Frame, frame}
use Rattle.law_serial_times.specs.Named.{child_pops}
use Rattle.spec_span.specs.Pass.{task_at, SPAN, POPPING, sharing, older_for, with_child}
use Rattle.law_span.specs.Heard.{can_pop_lem}
use Rattle.law_span_pass.specs.Raised.{later_assoc, latest_by, latest_two, latest_same, latest_both, latest_never}
use Rattle.law_span_pass.specs.Ready.{older_of, children_of, popping_of}
use Rattle.law_span_pass.specs.Kept.{TaskKept, Kept, stack_same, queue_same}

both_either : (x a b : Bool) → both x (either a b) ≡ either (both x a) (both x b)
unfolding both either pick
both_either true a b = refl
both_either false a b = refl

both_assoc : (x a b : Bool) → both x (both a b) ≡ both (both x a) b
unfolding both pick
both_assoc true a b = refl
both_assoc false a b = refl

module _ (j : List ℕ) (p c : Runner) (m : ℕ) (name : c.task.name ≡ m ∷ p.task.name) (F : List (Over Runner))
    (kids : (y : ℕ) (s : Runner) → Among F y s → (k : ℕ) → Under (k ∷ p.task.name) s.task.name → k < m) where
  -- no finished task is its child
  no_child : (y : ℕ) (s : Runner) → Among F y s → is_child s.task.name c.task.name ≡ false
  no_child y s a =
      refuted _ (λ e.
      let i = child_says s.task.name c.task.name e in
      let l = kids y s a m (i.0 ∷ [], i.1 ∙ ap (λ (q : Name). i.0 ∷ q) name) in omega (arith, l))

  children_none : children_of j c F ≡ 0
  children_none = latest_same _ (λ s. false) 0 F no_child ∙ latest_never 0 F

  popping_none : (q : ℕ) → popping_of j c q F ≡ 0
  popping_none q = latest_same _ (λ s. false) 0 F (λ y s a. both_off _ (no_child y s a)) ∙ latest_never 0 F

  -- a finished older sibling is a finished child of the spawner
  older_child : (y : ℕ) (s : Runner) → Among F y s → is_older s.task.name c.task.name ≡ is_child s.task.name p.task.name
  older_child y s a =
      same_test _ _
      (λ e.
      let o = older_says s.task.name c.task.name e in
      let t : o.2 ≡ p.task.name = tail-eq_of_cons-eq (sym o.4 ∙ name) in
      rw (o.3, t) (says_child o.0 p.task.name))
      (λ e.
      let i = child_says s.task.name p.task.name e in
      rw (i.1, name) (says_older i.0 m p.task.name (kids y s a i.0 ([], i.1))))

  abbrev r : ℕ
  r = rights_of j c.task

  abbrev part : ℕ → Runner → Bool
  part q s = both (both (is_child s.task.name p.task.name) (pops (rights_of j s.task) q)) (pops r q)

  shared : (x : Bool) (a : ℕ) → both x (shares_pop a r)
      ≡ either (both (both x (pops a 0)) (pops r 0)) (either (both (both x (pops a 1)) (pops r 1)) (either (both (both x (pops a 2)) (pops r 2)) (both (both x (pops a 3)) (pops r 3))))
  unfolding shares_pop some_queue
  shared x a =
      both_either x _ _
      ∙ ap₂ either (both_assoc x _ _) (both_either x _ _ ∙ ap₂ either (both_assoc x _ _) (both_either x _ _ ∙ ap₂ either (both_assoc x _ _) (both_assoc x _ _)))

  one_part : (q : ℕ) → q < 4 → latest_by (part q) 0 F ≡ pick (pops r q) (popping_of j p q F) 0
  one_part q few =
      latest_both (λ s. both (is_child s.task.name p.task.name) (pops (rights_of j s.task) q)) (pops r q) F
      ∙ ap (λ (x : ℕ). pick (pops r q) x 0)
      (latest_same _ (child_pops j p q) 0 F (λ y s a. ap (both (is_child s.task.name p.task.name)) (sym (can_pop_lem (rights_of j s.task) q few))))

  -- by queues
  older_parts : older_of j c F
      ≡ later (pick (pops r 0) (popping_of j p 0 F) 0) (later (pick (pops r 1) (popping_of j p 1 F) 0) (later (pick (pops r 2) (popping_of j p 2 F) 0) (pick (pops r 3) (popping_of j p 3 F) 0)))
  older_parts =
      latest_same _ (λ s. either (part 0 s) (either (part 1 s) (either (part 2 s) (part 3 s)))) 0 F
      (λ y s a. ap (λ (b : Bool). both b (shares_pop (rights_of j s.task) r)) (older_child y s a) ∙ shared _ _)
      ∙ latest_two (part 0) (λ s. either (part 1 s) (either (part 2 s) (part 3 s))) F
      ∙ ap₂ later (one_part 0 (omega arith))
      (latest_two (part 1) (λ s. either (part 2 s) (part 3 s)) F
      ∙ ap₂ later (one_part 1 (omega arith)) (latest_two (part 2) (part 3) F ∙ ap₂ later (one_part 2 (omega arith)) (one_part 3 (omega arith))))

-- THE CHILD c on top of its spawner p
module _ (j w : List ℕ) (f : List (Timed Runner)) (t : ℕ) (p : Runner) (st : List Frame) (n b : ℕ) (k : Kept j w f (frame t p ∷ st) n b) (deep : suc (suc (length st)) ≤ 128)
    (c : Runner) (m : ℕ) (name : c.task.name ≡ m ∷ p.task.name)
    (kids : (y : ℕ) (s : Runner) → Among (ended f) y s → (i : ℕ) → Under (i ∷ p.task.name) s.task.name → i < m) (position : c.task.position ≡ 0) where
  abbrev D : ℕ
  D = suc (length st)

  abbrev words : List ℕ
  words = c.task.procedure ∷ 0 ∷ c.task.register ∷ t ∷ 0 ∷ older_for w D (rights_of j c.task) ∷ 0 ∷ 0 ∷ 0 ∷ 0 ∷ []

  abbrev w' : List ℕ
  w' = with_child w D c.task.procedure (rights_of j c.task) c.task.register t

  child_size : size w' ≡ SPAN
  unfolding with_child
  child_size = size_store_all w (task_at (D + 1) 0) words ∙ k.sized

  child_other : (a : ℕ) → ((i : ℕ) → i < 10 → ¬ (a ≡ task_at (D + 1) 0 + i)) → load w' a ≡ load w a
  unfolding with_child
  child_other a h = block_other words w (task_at (D + 1) 0) a h

  child_word : (i : ℕ) → i < 10 → load w' (task_at (suc D) i) ≡ load words i
  unfolding with_child
  child_word i l =
      let e : task_at (suc D) i ≡ task_at (D + 1) 0 + i = omega arith in
      ap (load w') e ∙ block_same words w (task_at (D + 1) 0) i l (let s = k.sized in omega (arith, s, deep))

  older_is : older_for w D (rights_of j c.task) ≡ older_of j c (ended f)
  unfolding older_for sharing
  older_is =
      later_assoc _ _ _
      ∙ ap₂ later (part 0 (omega arith)) (ap₂ later (part 1 (omega arith)) (ap₂ later (part 2 (omega arith)) (part 3 (omega arith))))
      ∙ sym (older_parts j p c m name (ended f) kids)
    where
      part : (q : ℕ) → q < 4 → pick (pops (rights_of j c.task) q) (load w (task_at D (POPPING + q))) 0 ≡ pick (pops (rights_of j c.task) q) (popping_of j p q (ended f)) 0
      part q few = ap (λ (x : ℕ). pick (pops (rights_of j c.task) q) x 0) (k.tasks.0.popping q few)

  child_kept : TaskKept j w' (suc D) t c (ended f)
  unfolding load
  child_kept =
      record {
        procedure = child_word 0 (omega arith);
        position = child_word 1 (omega arith) ∙ sym position;
        register = child_word 2 (omega arith);
        own = child_word 3 (omega arith);
        children = child_word 4 (omega arith) ∙ sym (children_none j p c m name (ended f) kids);
        older = child_word 5 (omega arith) ∙ older_is;
        popping = by_four (λ q. load w' (task_at (suc D) (POPPING + q)) ≡ popping_of j c q (ended f))
            (child_word 6 (omega arith) ∙ sym (popping_none j p c m name (ended f) kids 0)) (child_word 7 (omega arith) ∙ sym (popping_none j p c m name (ended f) kids 1))
            (child_word 8 (omega arith) ∙ sym (popping_none j p c m name (ended f) kids 2)) (child_word 9 (omega arith) ∙ sym (popping_none j p c m name (ended f) kids 3));
      }

  pub spawned_kept : Kept j w' f (frame t c ∷ frame t p ∷ st) n b
  spawned_kept =
      record {
        sized = child_size;
        settled = k.settled;
        tasks = (child_kept, stack_same j w w' (ended f) (frame t p ∷ st) (λ d i x y. child_other _ (λ l g e. omega (arith, e, x, y, g))) k.tasks);
        queues = λ q l.
            queue_same j w w' f n q (λ i x. child_other _ (λ h g e. omega (arith, e, x, g, deep))) (λ i a x y. child_other _ (λ h g e. omega (arith, e, y, g, deep))) (k.queues q l);
        by = k.by;
        stack_by = (k.stack_by.0, k.stack_by);
      }
