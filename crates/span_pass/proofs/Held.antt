-- What was read of a task stays what its words say.
use mathlib.Core.Path.{◌≡◌, refl, ap, sym, ◌∙◌}
use mathlib.Core.Bool.{Bool, true, false}
use mathlib.Core.List.{List}
use Prim.Native.Nat.{ℕ, ◌<◌, ◌≤◌}
use native.Mathlib.Omega.{arith}
use lib.ListN.{length}
use Rattle.spec_words.specs.Words.{load, store, size, pick, size_store, load_same, load_other}
use Rattle.spec_line.specs.Later.{later}
use Rattle.spec_job.specs.Effects.{sum}
use Rattle.spec_span.specs.Pass.{task_at, queue_at, place_at, SPAN, POSITION, REGISTER, OWN, TAKEN, PUSHED, PUSHERS, VALUE, TIME, filled, queued, unqueued}
use Rattle.span_words.specs.declared.Standing.{Standing}
use Rattle.span_words.specs.Words.{Holds}

length_store : (w : List ℕ) (a v : ℕ) → length (store w a v) ≡ length w
length_store w a v = unfold size in size_store w a v

-- THE TASK GOES ON
module _ (w : List ℕ) (d i r t : ℕ) (few : d ≤ 128) (full : length w ≡ SPAN) where
  abbrev w1 : List ℕ
  w1 = store w (task_at d POSITION) i

  abbrev w2 : List ℕ
  w2 = store w1 (task_at d REGISTER) r

  abbrev w3 : List ℕ
  w3 = store w2 (task_at d OWN) t

  inside : (k : ℕ) → k < 10 → task_at d k < size w
  unfolding size
  inside k h = omega (arith, few, full, h)

  pub gone_position : i ≡ load w3 (task_at d POSITION)
  gone_position =
      sym
      (load_other w2 (task_at d OWN) (task_at d POSITION) t (λ z. omega (arith, z))
      ∙ load_other w1 (task_at d REGISTER) (task_at d POSITION) r (λ z. omega (arith, z))
      ∙ load_same w (task_at d POSITION) i (inside 1 (omega arith)))

  pub gone_register : r ≡ load w3 (task_at d REGISTER)
  gone_register =
      sym
      (load_other w2 (task_at d OWN) (task_at d REGISTER) t (λ z. omega (arith, z))
      ∙ load_same w1 (task_at d REGISTER) r (let l = size_store w (task_at d POSITION) i in let b = inside 2 (omega arith) in omega (arith, l, b)))

  pub gone_own : t ≡ load w3 (task_at d OWN)
  gone_own =
      sym
      (load_same w2 (task_at d OWN) t
      (let l = size_store w (task_at d POSITION) i in let m = size_store w1 (task_at d REGISTER) r in let b = inside 3 (omega arith) in omega (arith, l, m, b)))

  -- another of its words
  pub gone_other : (k : ℕ) → ¬ (k ≡ 1) → ¬ (k ≡ 2) → ¬ (k ≡ 3) → load w (task_at d k) ≡ load w3 (task_at d k)
  gone_other k a b c =
      sym
      (load_other w2 (task_at d OWN) (task_at d k) t (λ z. c (omega (arith, z)))
      ∙ load_other w1 (task_at d REGISTER) (task_at d k) r (λ z. b (omega (arith, z)))
      ∙ load_other w (task_at d POSITION) (task_at d k) i (λ z. a (omega (arith, z))))

  pub gone_sized : length w3 ≡ SPAN
  gone_sized = length_store w2 _ _ ∙ length_store w1 _ _ ∙ length_store w _ _ ∙ full

pub holds_gone : (w : List ℕ) (h : Standing) (i r t : ℕ) → Holds w h
    → Holds (store (store (store w (task_at h.depth POSITION) i) (task_at h.depth REGISTER) r) (task_at h.depth OWN) t)
    (record { depth = h.depth; procedure = h.procedure; position = i; register = r; own = t; older = h.older; time = t })
holds_gone w h i r t a =
    let few = a.bounded in let full = a.sized in let d = h.depth in
    record {
      procedure = a.procedure ∙ gone_other w d i r t few full 0 (λ z. omega (arith, z)) (λ z. omega (arith, z)) (λ z. omega (arith, z));
      position = gone_position w d i r t few full;
      register = gone_register w d i r t few full;
      own = gone_own w d i r t few full;
      older = a.older ∙ gone_other w d i r t few full 5 (λ z. omega (arith, z)) (λ z. omega (arith, z)) (λ z. omega (arith, z));
      bounded = few;
      sized = gone_sized w d i r t few full;
    }

-- A QUEUE CHANGES, and no word of a task
abbrev Keeps : List ℕ → List ℕ → ℕ → Type 0
Keeps w w' d = (k : ℕ) → k < 10 → load w (task_at d k) ≡ load w' (task_at d k)

holds_kept : (w w' : List ℕ) (h : Standing) → Keeps w w' h.depth → length w' ≡ length w → Holds w h → Holds w' h
holds_kept w w' h keep long a =
    record {
      procedure = a.procedure ∙ keep 0 (omega arith);
      position = a.position ∙ keep 1 (omega arith);
      register = a.register ∙ keep 2 (omega arith);
      own = a.own ∙ keep 3 (omega arith);
      older = a.older ∙ keep 5 (omega arith);
      bounded = a.bounded;
      sized = long ∙ a.sized;
    }

keep_store : (w : List ℕ) (d b v : ℕ) → d ≤ 128 → 1290 ≤ b → Keeps w (store w b v) d
keep_store w d b v few far k h = sym (load_other w b (task_at d k) v (λ z. omega (arith, z, few, far, h)))

pub holds_queued : (w : List ℕ) (h : Standing) (q v t : ℕ) {w' : List ℕ} → w' ≡ queued w q v t → length w' ≡ length w → Holds w h → Holds w' h
holds_queued w h q v t {w'} e long a = holds_kept w w' h keep long a
  where
    n : ℕ
    n = load w (queue_at q PUSHED)

    W1 : List ℕ
    W1 = store w (place_at q n VALUE) v

    W2 : List ℕ
    W2 = store W1 (place_at q n TIME) (later t (load w (queue_at q PUSHERS)))

    keep : Keeps w w' h.depth
    keep k l =
        keep_store w h.depth (place_at q n VALUE) v a.bounded (omega arith) k l
        ∙ keep_store W1 h.depth (place_at q n TIME) (later t (load w (queue_at q PUSHERS))) a.bounded (omega arith) k l
        ∙ keep_store W2 h.depth (queue_at q PUSHED) (sum n 1) a.bounded (omega arith) k l
        ∙ ap (λ (u : List ℕ). load u (task_at h.depth k)) (sym (e ∙ (unfold queued in refl)))

pub holds_unqueued : (w : List ℕ) (h : Standing) (q : ℕ) {w' : List ℕ} → w' ≡ unqueued w q → length w' ≡ length w → Holds w h → Holds w' h
holds_unqueued w h q {w'} e long a = holds_kept w w' h keep long a
  where
    W : List ℕ
    W = store w (queue_at q TAKEN) (sum (load w (queue_at q TAKEN)) 1)

    go : (b : Bool) → Keeps w (pick b W w) h.depth
    go true k l = unfold pick in keep_store w h.depth (queue_at q TAKEN) (sum (load w (queue_at q TAKEN)) 1) a.bounded (omega arith) k l
    go false k l = unfold pick in refl

    keep : Keeps w w' h.depth
    keep k l = go (filled w q) k l ∙ ap (λ (u : List ℕ). load u (task_at h.depth k)) (sym (e ∙ (unfold unqueued in refl)))
