-- A TASK THAT THE TOUR DID NOT MEET gets a place in a line, with or without a right to the queue.
use Rattle.std.specs.Prelude.{◌≡◌, refl, Bool, true, false, List, [], ◌∷◌, ◌++◌, ℕ, ◌+◌, ◌-◌, ◌≤◌, ltb}
use Rattle.std.proofs.Common.{ap, ◌∙◌, ⊎_elim, arith, lt-ltb, le-ltb}
use Rattle.spec_words.specs.Words.{pick, pass as skip, halt}
use Rattle.spec_lists.specs.Counting.{occurrences, below?, occurs_not}
use Rattle.spec_tree.specs.Rights.{pops, uses}
use Rattle.spec_order.specs.Steps.{Task, Item, spot, task, spawns, number_of, rights_of, advance}
use Rattle.law_order.specs.Count.{count, spot_numbered}
use Rattle.law_order_queue.specs.Points.{Point, user, Timeline}
use Rattle.law_order_queue.specs.Laws.{spawn_line, spawn_past}
use Rattle.spec_lists.specs.Maps.{All, put, put_other, all_append, all_front, all_behind}
use Rattle.law_gaps.specs.Line.{base, exited, entered, pass, Line, marks, Fits}

-- a line fits still where a task of none of its marks gets rights
pub fits_new : (f : ℕ → Bool) (c : ℕ) (b : Bool) (l : Line) → occurrences c (marks l) ≡ 0 → occurrences (128 + c) (marks l) ≡ 0
    → All (Fits f) l → All (Fits (put f c b)) l
fits_new f c b [] n k h = tt
fits_new f c b (base d ∷ l) n k h = (tt, fits_new f c b l n k h.1)
fits_new f c b (exited t ∷ l) n k h =
    let i = occurs_not (128 + t) c (marks l) n in
    let j = occurs_not (128 + t) (128 + c) (marks l) k in
    (put_other f c b t (λ e. j.0 (ap (λ (x : ℕ). 128 + x) e)) ∙ h.0, fits_new f c b l i.1 j.1 h.1)
fits_new f c b (entered t d ∷ l) n k h =
    let i = occurs_not t c (marks l) n in
    let j = occurs_not t (128 + c) (marks l) k in
    (put_other f c b t i.0 ∙ h.0, fits_new f c b l i.1 j.1 h.1)
fits_new f c b (pass x ∷ l) n k h =
    let i = occurs_not x c (marks l) n in
    let j = occurs_not x (128 + c) (marks l) k in
    (put_other f c b (pick (ltb x 128) x (x - 128)) (other i.0 j.0) ∙ h.0, fits_new f c b l i.1 j.1 h.1)
  where
    other : (x ≡ c → ⊥) → (x ≡ 128 + c → ⊥) → pick (ltb x 128) x (x - 128) ≡ c → ⊥
    other p q e =
        ⊎_elim
        (λ s. let a = halt x (x - 128) (lt-ltb x 128 s) in p (omega (arith, a, e)))
        (λ s. let a : pick (ltb x 128) x (x - 128) ≡ x - 128 = skip x (le-ltb x 128 s) refl in q (omega (arith, a, e, s)))
        (below? x 128)

-- two marks put in behind mark z
pub all_with : {A : Type 0} (P : A → Type 0) (b : List A) (z x y : A) (a : List A) → All P (b ++ (z ∷ a)) → P x → P y → All P (b ++ (z ∷ (x ∷ (y ∷ a))))
all_with P b z x y a h p q =
    let k = all_behind P b (z ∷ a) h in
    all_append P b (z ∷ (x ∷ (y ∷ a))) (all_front P b (z ∷ a) h) (k.0, (p, (q, k.1)))

-- THE TIMELINE after a spawn of c by task s
module _ (q : ℕ) (ys zs : List Item) (c u : ℕ) where
  abbrev Single : Task → Type 0
  Single s = count (spot_numbered (number_of s)) (ys ++ spot s ∷ zs) ≤ 1

  abbrev Spawned : Task → List Item
  Spawned s = advance (number_of s) (spawns c u) (ys ++ spot s ∷ zs)

  pub child_line : (s : Task) → Single s → (a b : List Point) → uses u q ≡ true → uses (rights_of s) q ≡ true → (pops u q ≡ true → pops (rights_of s) q ≡ true)
      → Timeline q (ys ++ spot s ∷ zs) (a ++ user (number_of s) ∷ b) → Timeline q (Spawned s) (a ++ user c ∷ user (number_of s) ∷ b)
  unfolding number_of rights_of
  child_line (task p t r k) single a b e f g h = spawn_line q ys zs p t r k c u single a b e f g h

  pub child_past : (s : Task) → Single s → {ps : List Point} → uses u q ≡ false → Timeline q (ys ++ spot s ∷ zs) ps → Timeline q (Spawned s) ps
  unfolding number_of
  child_past (task p t r k) single e h = spawn_past q ys zs p t r k c u single e h
