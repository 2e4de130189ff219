-- What every operation here leaves alone, and what it is to say that words m become words n with a given meaning.
use Rattle.std.specs.Prelude.{◌≡◌, refl, List, ℕ, ◌<◌}
use Rattle.std.proofs.Common.{ap, subst, ◌∙◌}
use Rattle.spec_words.specs.Words.{size, load_other}
use Rattle.spec_layout.specs.Layout.{Field, number_word, free_tasks, free_task, task, length_of, address, read, write}
use Rattle.spec_layout.proofs.Frame.{size_write}
use Rattle.law_maps.specs.Meaning.{Meaning, meaning_of, Sized}

-- the size, L, the number of segments, the task tree and the stack of free records are the same
pub record Kept (m n : List ℕ) : Type 0 where
  pub words : size n ≡ size m
  pub length : (s : ℕ) → length_of n s ≡ length_of m s
  pub number : read n number_word ≡ read m number_word
  pub links : (t k : ℕ) → t < 128 → k < 16 → read n (task t k) ≡ read m (task t k)
  pub idle_height : read n free_tasks ≡ read m free_tasks
  pub idle : (i : ℕ) → i < 128 → read n (free_task i) ≡ read m (free_task i)

pub kept_all : (m : List ℕ) → Kept m m
kept_all m = record { words = refl; length = λ s. refl; number = refl; links = λ t k a b. refl; idle_height = refl; idle = λ i l. refl }

pub kept_then : {m n p : List ℕ} → Kept m n → Kept n p → Kept m p
kept_then a b =
    record {
      words = b.words ∙ a.words;
      length = λ s. b.length s ∙ a.length s;
      number = b.number ∙ a.number;
      links = λ t k h l. b.links t k h l ∙ a.links t k h l;
      idle_height = b.idle_height ∙ a.idle_height;
      idle = λ i l. b.idle i l ∙ a.idle i l;
    }

-- n keeps what Kept says of m, has all numbers in range, and means M
pub record Becomes (m n : List ℕ) (M : Meaning) : Type 0 where
  pub kept : Kept m n
  pub sized : Sized n
  pub means : meaning_of n ≡ M

pub stays : {m : List ℕ} → Sized m → Becomes m m (meaning_of m)
stays {m} z = record { kept = kept_all m; sized = z; means = refl }

-- one operation after another
pub becomes_then : {m n p : List ℕ} {M : Meaning} (f : Meaning → Meaning) → Becomes m n M → Becomes n p (f (meaning_of n)) → Becomes m p (f M)
becomes_then f a b = record { kept = kept_then a.kept b.kept; sized = b.sized; means = b.means ∙ ap f a.means }

-- the same meaning in other words
pub becomes_as : {m n : List ℕ} {M N : Meaning} → M ≡ N → Becomes m n M → Becomes m n N
becomes_as e a = record { kept = a.kept; sized = a.sized; means = a.means ∙ e }

-- the numbers of n are in range, and it means M
pub record Means (n : List ℕ) (M : Meaning) : Type 0 where
  pub sized : Sized n
  pub means : meaning_of n ≡ M

-- the same words by another name
pub becomes_at : {m n p : List ℕ} {M : Meaning} → n ≡ p → Becomes m n M → Becomes m p M
becomes_at {m} {M = M} e a = subst (λ l. Becomes m l M) e a

-- A WRITE elsewhere
pub read_away : (m : List ℕ) (f g : Field) (v : ℕ) → (address g ≡ address f → ⊥) → read (write m f v) g ≡ read m g
unfolding read write
read_away m f g v n = load_other m (address f) (address g) v n

-- n is m but for fields that P does not hold of
pub record Only (P : Field → Type 0) (m n : List ℕ) : Type 0 where
  pub words : size n ≡ size m
  pub same : (f : Field) → P f → read n f ≡ read m f

pub only_then : {P : Field → Type 0} {m n p : List ℕ} → Only P m n → Only P n p → Only P m p
only_then a b = record { words = b.words ∙ a.words; same = λ f h. b.same f h ∙ a.same f h }

pub write_only : {P : Field → Type 0} (m : List ℕ) (g : Field) (v : ℕ) → ((f : Field) → P f → address f ≡ address g → ⊥) → Only P m (write m g v)
write_only m g v n = record { words = size_write m g v; same = λ f h. read_away m g f v (n f h) }
