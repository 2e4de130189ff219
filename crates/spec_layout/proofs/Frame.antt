-- The frame law: what a read gives after a write, stated once for all fields.
use Rattle.std.specs.Prelude.{◌≡◌, refl, Bool, true, false, List, ℕ, ◌+◌, ◌-◌, ◌*◌, ◌/◌, ◌%◌, ◌<◌, ltb, eqb}
use Rattle.std.proofs.Common.{ap, ap₂, sym, ◌∙◌, arith, get_or-drop, eq-eqb, eqb-true, lt-ltb, le-ltb}
use Rattle.std.proofs.lemmas.Bool.{eqb-false}
use Rattle.spec_words.specs.Words.{load, store, size, pick, pass, halt, pick_true, pick_false, size_store, load_same, load_other}
use Rattle.spec_layout.specs.Layout.{WORDS, FREE_SEGMENTS, FREE_TASKS, SEGMENTS, SEGMENT_WORDS, TASKS, TASK_WORDS, VALUES, VALUE_WORDS, Field}
use Rattle.spec_layout.specs.Layout.{header, free_segment, free_task, segment, task, value, address, read, write, record_of}

-- the fields that the memory has
abbrev pub Within : Field → Type 0
Within (header k) = k < FREE_SEGMENTS
Within (free_segment i) = i < 256
Within (free_task i) = i < 128
Within (segment s k) = (s < 256) × (k < SEGMENT_WORDS)
Within (task t k) = (t < 128) × (k < TASK_WORDS)
Within (value i) = i < VALUE_WORDS

pub inside : (f : Field) → Within f → address f < WORDS
unfolding address
inside (header k) h = omega arith
inside (free_segment i) h = omega arith
inside (free_task i) h = omega arith
inside (segment s k) h = omega arith
inside (task t k) h = omega arith
inside (value i) h = omega arith

-- the field at an address
field_at : ℕ → Field
field_at a =
    pick (ltb a FREE_SEGMENTS) (header a)
    (pick (ltb a FREE_TASKS) (free_segment (a - FREE_SEGMENTS))
    (pick (ltb a SEGMENTS) (free_task (a - FREE_TASKS))
    (pick (ltb a TASKS) (segment ((a - SEGMENTS) / SEGMENT_WORDS) ((a - SEGMENTS) % SEGMENT_WORDS))
    (pick (ltb a 7616) (task ((a - TASKS) / TASK_WORDS) ((a - TASKS) % TASK_WORDS))
    (value (a - VALUES))))))

field_back : (f : Field) → Within f → field_at (address f) ≡ f
unfolding field_at address
field_back (header k) h = halt _ _ (lt-ltb k FREE_SEGMENTS h)
field_back (free_segment i) h =
    pass _ (le-ltb (FREE_SEGMENTS + i) FREE_SEGMENTS (omega arith))
    (halt _ _ (lt-ltb (FREE_SEGMENTS + i) FREE_TASKS (omega arith)) ∙ ap free_segment (omega arith))
field_back (free_task i) h =
    pass _ (le-ltb (FREE_TASKS + i) FREE_SEGMENTS (omega arith)) (pass _ (le-ltb (FREE_TASKS + i) FREE_TASKS (omega arith))
    (halt _ _ (lt-ltb (FREE_TASKS + i) SEGMENTS (omega arith)) ∙ ap free_task (omega arith)))
field_back (segment s k) h =
    pass _ (le-ltb (SEGMENTS + s * SEGMENT_WORDS + k) FREE_SEGMENTS (omega arith)) (pass _ (le-ltb (SEGMENTS + s * SEGMENT_WORDS + k) FREE_TASKS (omega arith))
    (pass _ (le-ltb (SEGMENTS + s * SEGMENT_WORDS + k) SEGMENTS (omega arith)) (halt _ _ (lt-ltb (SEGMENTS + s * SEGMENT_WORDS + k) TASKS (omega arith))
    ∙ ap₂ segment (omega arith) (omega arith))))
field_back (task t k) h =
    pass _ (le-ltb (TASKS + t * TASK_WORDS + k) FREE_SEGMENTS (omega arith)) (pass _ (le-ltb (TASKS + t * TASK_WORDS + k) FREE_TASKS (omega arith))
    (pass _ (le-ltb (TASKS + t * TASK_WORDS + k) SEGMENTS (omega arith)) (pass _ (le-ltb (TASKS + t * TASK_WORDS + k) TASKS (omega arith))
    (halt _ _ (lt-ltb (TASKS + t * TASK_WORDS + k) 7616 (omega arith)) ∙ ap₂ task (omega arith) (omega arith)))))
field_back (value i) h =
    pass _ (le-ltb (VALUES + i) FREE_SEGMENTS (omega arith)) (pass _ (le-ltb (VALUES + i) FREE_TASKS (omega arith))
    (pass _ (le-ltb (VALUES + i) SEGMENTS (omega arith)) (pass _ (le-ltb (VALUES + i) TASKS (omega arith))
    (pass _ (le-ltb (VALUES + i) 7616 (omega arith)) (ap value (omega arith))))))

-- two fields at one address are the same
pub apart : (f g : Field) → Within f → Within g → address f ≡ address g → f ≡ g
apart f g hf hg e = sym (field_back f hf) ∙ ap field_at e ∙ field_back g hg

pub size_write : (m : List ℕ) (f : Field) (v : ℕ) → size (write m f v) ≡ size m
unfolding write
size_write m f v = size_store m (address f) v

-- THE FRAME LAW: a read of g after a write of v to f gives v where they are one word, and what it gave before where not.
pub frame : (m : List ℕ) (f g : Field) (v : ℕ) → size m ≡ WORDS → Within f → read (write m f v) g ≡ pick (eqb (address g) (address f)) v (read m g)
unfolding read write
frame m f g v s h = go (eqb (address g) (address f)) refl
  where
    go : (b : Bool) → eqb (address g) (address f) ≡ b → load (store m (address f) v) (address g) ≡ pick b v (load m (address g))
    go true e = ap (load (store m (address f) v)) (eqb-true _ _ e) ∙ load_same m (address f) v (rw s (inside f h)) ∙ sym (pick_true _ _)
    go false e = load_other m (address f) (address g) v (eqb-false _ _ e) ∙ sym (pick_false _ _)

-- its two sides
pub read_same : (m : List ℕ) (f : Field) (v : ℕ) → size m ≡ WORDS → Within f → read (write m f v) f ≡ v
read_same m f v s h = frame m f f v s h ∙ halt _ _ (eq-eqb (address f) (address f) refl)

pub read_other : (m : List ℕ) (f g : Field) (v : ℕ) → Within f → Within g → (g ≡ f → ⊥) → read (write m f v) g ≡ read m g
unfolding read write
read_other m f g v hf hg n = load_other m (address f) (address g) v (λ e. n (apart g f hg hf e))

-- a word of a task's record
pub record_word : (m : List ℕ) (t k : ℕ) → load (record_of m t) k ≡ read m (task t k)
unfolding load record_of read address
record_word m t k = get_or-drop (TASKS + t * TASK_WORDS) m k 0
