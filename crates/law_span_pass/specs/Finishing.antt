-- A TASK FINISHES: what the words hold then. Its parent's words for children are raised, and the words of the queues to which it may push.
use Rattle.std.specs.Prelude.{◌≡◌, Bool, List, ℕ, ◌+◌, ◌<◌, ◌≤◌}
use Rattle.std.proofs.Math.Path.{refl, ap}
use Rattle.std.proofs.Common.{◌∙◌, arith}
use Rattle.std.proofs.Math.Bool.{true, false}
use Rattle.spec_words.specs.Words.{load, store, size, pick, load_same, load_other, size_store}
use Rattle.spec_tree.specs.Rights.{pushes, pops}
use Rattle.spec_tree.specs.Queues.{by_four}
use Rattle.spec_line.specs.Later.{later}
use Rattle.spec_span.specs.Pass.{task_at, queue_at, SPAN, CHILDREN, POPPING, PUSHERS, raised, finished_on}
use Rattle.law_span_pass.specs.Raised.{raise}

-- A WORD THAT IS RAISED where b says so
module _ (b : Bool) (w : List ℕ) (a t : ℕ) where
  raised_size : size (pick b (raised w a t) w) ≡ size w
  unfolding raised
  raised_size = go b
    where
      go : (c : Bool) → size (pick c (store w a (later (load w a) t)) w) ≡ size w
      go true = unfold pick in size_store _ _ _
      go false = unfold pick in refl

  raised_here : a < size w → load (pick b (raised w a t) w) a ≡ raise b t (load w a)
  unfolding raised raise
  raised_here h = go b
    where
      go : (c : Bool) → load (pick c (store w a (later (load w a) t)) w) a ≡ pick c (later (load w a) t) (load w a)
      go true = unfold pick in load_same _ _ _ h
      go false = unfold pick in refl

  raised_other : (x : ℕ) → ¬ (x ≡ a) → load (pick b (raised w a t) w) x ≡ load w x
  unfolding raised
  raised_other x n = go b
    where
      go : (c : Bool) → load (pick c (store w a (later (load w a) t)) w) x ≡ load w x
      go true = unfold pick in load_other _ _ _ _ n
      go false = unfold pick in refl

-- what a finish at time t of a task with rights r says of queue q; the task's parent is at depth d
module _ (d r t : ℕ) (deep : d ≤ 128) where
  module _ (w : List ℕ) (q : ℕ) (few : q < 4) (sized : size w ≡ SPAN) where
    on_size : size (finished_on w d r t q) ≡ SPAN
    unfolding finished_on
    on_size = raised_size (pushes r q) _ _ t ∙ raised_size (pops r q) w _ t ∙ sized

    on_other : (x : ℕ) → ¬ (x ≡ task_at d (POPPING + q)) → ¬ (x ≡ queue_at q PUSHERS) → load (finished_on w d r t q) x ≡ load w x
    unfolding finished_on
    on_other x n m = raised_other (pushes r q) _ _ t x m ∙ raised_other (pops r q) w _ t x n

    on_task : load (finished_on w d r t q) (task_at d (POPPING + q)) ≡ raise (pops r q) t (load w (task_at d (POPPING + q)))
    unfolding finished_on
    on_task = raised_other (pushes r q) _ _ t _ (λ x. omega (arith, x, deep, few)) ∙ raised_here (pops r q) w _ t (omega (arith, sized, deep, few))

    on_queue : load (finished_on w d r t q) (queue_at q PUSHERS) ≡ raise (pushes r q) t (load w (queue_at q PUSHERS))
    unfolding finished_on
    on_queue =
        raised_here (pushes r q) _ _ t (let s = raised_size (pops r q) w (task_at d (POPPING + q)) t in omega (arith, s, sized, few))
        ∙ ap (raise (pushes r q) t) (raised_other (pops r q) w _ t _ (λ x. omega (arith, x, deep, few)))

  -- all of it
  module _ (w : List ℕ) (sized : size w ≡ SPAN) where
    abbrev w0 : List ℕ
    w0 = raised w (task_at d CHILDREN) t

    abbrev w1 : List ℕ
    w1 = finished_on w0 d r t 0

    abbrev w2 : List ℕ
    w2 = finished_on w1 d r t 1

    abbrev w3 : List ℕ
    w3 = finished_on w2 d r t 2

    abbrev w4 : List ℕ
    w4 = finished_on w3 d r t 3

    s0 : size w0 ≡ SPAN
    unfolding raised
    s0 = size_store _ _ _ ∙ sized

    s1 : size w1 ≡ SPAN
    s1 = on_size w0 0 (omega arith) s0

    s2 : size w2 ≡ SPAN
    s2 = on_size w1 1 (omega arith) s1

    s3 : size w3 ≡ SPAN
    s3 = on_size w2 2 (omega arith) s2

    pub all_size : size w4 ≡ SPAN
    all_size = on_size w3 3 (omega arith) s3

    first_other : (x : ℕ) → ¬ (x ≡ task_at d CHILDREN) → load w0 x ≡ load w x
    unfolding raised
    first_other x n = load_other _ _ _ _ n

    -- a word of no queue
    past : (x : ℕ) → ((q : ℕ) → q < 4 → ¬ (x ≡ task_at d (POPPING + q)) × ¬ (x ≡ queue_at q PUSHERS)) → load w4 x ≡ load w0 x
    past x n =
        on_other w3 3 (omega arith) s3 x (n 3 (omega arith)).0 (n 3 (omega arith)).1
        ∙ on_other w2 2 (omega arith) s2 x (n 2 (omega arith)).0 (n 2 (omega arith)).1
        ∙ on_other w1 1 (omega arith) s1 x (n 1 (omega arith)).0 (n 1 (omega arith)).1
        ∙ on_other w0 0 (omega arith) s0 x (n 0 (omega arith)).0 (n 0 (omega arith)).1

    pub all_other : (x : ℕ) → ¬ (x ≡ task_at d CHILDREN) → ((q : ℕ) → q < 4 → ¬ (x ≡ task_at d (POPPING + q)) × ¬ (x ≡ queue_at q PUSHERS)) → load w4 x ≡ load w x
    all_other x c n = past x n ∙ first_other x c

    pub all_children : load w4 (task_at d CHILDREN) ≡ later (load w (task_at d CHILDREN)) t
    unfolding raised
    all_children = past (task_at d CHILDREN) (λ q l. (λ x. omega (arith, x), λ x. omega (arith, x, deep))) ∙ load_same _ _ _ (omega (arith, sized, deep))

    pub all_popping : (q : ℕ) → q < 4 → load w4 (task_at d (POPPING + q)) ≡ raise (pops r q) t (load w (task_at d (POPPING + q)))
    all_popping =
        by_four (λ q. load w4 (task_at d (POPPING + q)) ≡ raise (pops r q) t (load w (task_at d (POPPING + q))))
        (on_other w3 3 (omega arith) s3 _ (λ x. omega (arith, x, deep)) (λ x. omega (arith, x, deep)) ∙ on_other w2 2 (omega arith) s2 _ (λ x. omega (arith, x, deep)) (λ x. omega (arith, x, deep)) ∙ on_other w1 1 (omega arith) s1 _ (λ x. omega (arith, x, deep)) (λ x. omega (arith, x, deep)) ∙ on_task w0 0 (omega arith) s0 ∙ ap (raise (pops r 0) t) (first_other _ (λ x. omega (arith, x, deep))))
        (on_other w3 3 (omega arith) s3 _ (λ x. omega (arith, x, deep)) (λ x. omega (arith, x, deep)) ∙ on_other w2 2 (omega arith) s2 _ (λ x. omega (arith, x, deep)) (λ x. omega (arith, x, deep)) ∙ on_task w1 1 (omega arith) s1 ∙ ap (raise (pops r 1) t) (on_other w0 0 (omega arith) s0 _ (λ x. omega (arith, x, deep)) (λ x. omega (arith, x, deep)) ∙ first_other _ (λ x. omega (arith, x, deep))))
        (on_other w3 3 (omega arith) s3 _ (λ x. omega (arith, x, deep)) (λ x. omega (arith, x, deep)) ∙ on_task w2 2 (omega arith) s2 ∙ ap (raise (pops r 2) t) (on_other w1 1 (omega arith) s1 _ (λ x. omega (arith, x, deep)) (λ x. omega (arith, x, deep)) ∙ on_other w0 0 (omega arith) s0 _ (λ x. omega (arith, x, deep)) (λ x. omega (arith, x, deep)) ∙ first_other _ (λ x. omega (arith, x, deep))))
        (on_task w3 3 (omega arith) s3 ∙ ap (raise (pops r 3) t) (on_other w2 2 (omega arith) s2 _ (λ x. omega (arith, x, deep)) (λ x. omega (arith, x, deep)) ∙ on_other w1 1 (omega arith) s1 _ (λ x. omega (arith, x, deep)) (λ x. omega (arith, x, deep)) ∙ on_other w0 0 (omega arith) s0 _ (λ x. omega (arith, x, deep)) (λ x. omega (arith, x, deep)) ∙ first_other _ (λ x. omega (arith, x, deep))))

    pub all_pushers : (q : ℕ) → q < 4 → load w4 (queue_at q PUSHERS) ≡ raise (pushes r q) t (load w (queue_at q PUSHERS))
    all_pushers =
        by_four (λ q. load w4 (queue_at q PUSHERS) ≡ raise (pushes r q) t (load w (queue_at q PUSHERS)))
        (on_other w3 3 (omega arith) s3 _ (λ x. omega (arith, x, deep)) (λ x. omega (arith, x, deep)) ∙ on_other w2 2 (omega arith) s2 _ (λ x. omega (arith, x, deep)) (λ x. omega (arith, x, deep)) ∙ on_other w1 1 (omega arith) s1 _ (λ x. omega (arith, x, deep)) (λ x. omega (arith, x, deep)) ∙ on_queue w0 0 (omega arith) s0 ∙ ap (raise (pushes r 0) t) (first_other _ (λ x. omega (arith, x, deep))))
        (on_other w3 3 (omega arith) s3 _ (λ x. omega (arith, x, deep)) (λ x. omega (arith, x, deep)) ∙ on_other w2 2 (omega arith) s2 _ (λ x. omega (arith, x, deep)) (λ x. omega (arith, x, deep)) ∙ on_queue w1 1 (omega arith) s1 ∙ ap (raise (pushes r 1) t) (on_other w0 0 (omega arith) s0 _ (λ x. omega (arith, x, deep)) (λ x. omega (arith, x, deep)) ∙ first_other _ (λ x. omega (arith, x, deep))))
        (on_other w3 3 (omega arith) s3 _ (λ x. omega (arith, x, deep)) (λ x. omega (arith, x, deep)) ∙ on_queue w2 2 (omega arith) s2 ∙ ap (raise (pushes r 2) t) (on_other w1 1 (omega arith) s1 _ (λ x. omega (arith, x, deep)) (λ x. omega (arith, x, deep)) ∙ on_other w0 0 (omega arith) s0 _ (λ x. omega (arith, x, deep)) (λ x. omega (arith, x, deep)) ∙ first_other _ (λ x. omega (arith, x, deep))))
        (on_queue w3 3 (omega arith) s3 ∙ ap (raise (pushes r 3) t) (on_other w2 2 (omega arith) s2 _ (λ x. omega (arith, x, deep)) (λ x. omega (arith, x, deep)) ∙ on_other w1 1 (omega arith) s1 _ (λ x. omega (arith, x, deep)) (λ x. omega (arith, x, deep)) ∙ on_other w0 0 (omega arith) s0 _ (λ x. omega (arith, x, deep)) (λ x. omega (arith, x, deep)) ∙ first_other _ (λ x. omega (arith, x, deep))))
