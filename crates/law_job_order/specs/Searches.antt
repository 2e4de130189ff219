-- WHAT A SEARCH MEETS on a line: the first point of a queue says what stands before a task that looks in the queue.
use Rattle.std.specs.Prelude.{◌≡◌, Bool, true, false, ℕ, eqb}
use Rattle.std.proofs.Math.Path.{refl, ap}
use Rattle.std.proofs.Common.{sym, ◌∙◌, subst, inl, inr, ⊎_elim, arith, eqb-true}
use mathlib.Core.List.{List, [], ◌∷◌, ◌++◌, map}
use Rattle.spec_words.specs.Words.{pick, halt, pass}
use Rattle.spec_lists.specs.Counting.{equal?}
use Rattle.spec_tree.specs.Rights.{uses, pops as mayPop}
use Rattle.spec_answers.specs.declared.Finding.{Finding}
use Rattle.spec_answers.specs.declared.Finding.TheVariants.{Value, Empty, Waits}
use Rattle.spec_order.specs.Steps.{Task, Item as Mark, step, spot as place, number_of, rights_of}
use Rattle.law_order.specs.Items.{In}
use Rattle.law_order_queue.specs.Points.{Point, user}
use Rattle.law_order_queue.specs.Found.{first_of}
use Rattle.spec_lists.specs.Maps.{All}
use Rattle.spec_line.specs.Line.{Item, value, spot, finished, gave}
use Rattle.law_job_order.specs.Beside.{Numbered, standing, places, task_of, points_of}
use Rattle.law_job_order.specs.Points.{point_is, value_here, value_past, finished_past, gave_past}

value_empty : {v : ℕ} {A : Type 0} → Value v ≡ Empty → A
value_empty e = let z : ◌≡◌ {A = ℕ} 0 1 = cc in absurd (omega (arith, z))

pub value_waits : {v : ℕ} {A : Type 0} → Value v ≡ Waits → A
value_waits e = let z : ◌≡◌ {A = ℕ} 0 1 = cc in absurd (omega (arith, z))

pub empty_waits : {A : Type 0} → Empty ≡ Waits → A
empty_waits e = let z : ◌≡◌ {A = ℕ} 0 1 = cc in absurd (omega (arith, z))

same_value : {v w : ℕ} → Value v ≡ Value w → v ≡ w
same_value e = cc

-- a task at the front of a queue is no value, and where it is the end of the queue it is the one that looks
user_value : (t u v : ℕ) (ps : List Point) → first_of t (user u ∷ ps) ≡ Value v → ⊥
unfolding first_of pick
user_value t u v ps e = go (eqb u t) e
  where
    go : (c : Bool) → pick c Empty Waits ≡ Value v → ⊥
    go true d = value_empty (sym d)
    go false d = value_waits (sym d)

user_empty : (t u : ℕ) (ps : List Point) → first_of t (user u ∷ ps) ≡ Empty → u ≡ t
unfolding first_of
user_empty t u ps e = go (eqb u t) refl
  where
    go : (c : Bool) → eqb u t ≡ c → u ≡ t
    go true d = eqb-true u t d
    go false d = empty_waits (sym (sym (pass _ d refl) ∙ e))

module _ (j : List ℕ) where
  -- a property of the tasks that stand on a line
  abbrev pub Spots : (Task → Type 0) → Item Numbered → Type 0
  Spots P (value q v) = Unit {0}
  Spots P (spot n) = P (task_of j n)
  Spots P (finished n) = Unit {0}
  Spots P (gave q) = Unit {0}

  all_places : (P : Task → Type 0) (ys : List Mark) → ((o : Task) → In (place o) ys → P o) → All P (places ys)
  unfolding places
  all_places P [] h = tt
  all_places P (step p a ∷ ys) h = all_places P ys (λ o i. h o (inr i))
  all_places P (place s ∷ ys) h = (h s (inl refl), all_places P ys (λ o i. h o (inr i)))

  all_standing : (P : Task → Type 0) (a : List (Item Numbered)) → All P (map (task_of j) (standing a)) → All (Spots P) a
  unfolding standing
  all_standing P [] h = tt
  all_standing P (value q v ∷ a) h = (tt, all_standing P a h)
  all_standing P (spot n ∷ a) h = (h.0, all_standing P a h.1)
  all_standing P (finished n ∷ a) h = (tt, all_standing P a h)
  all_standing P (gave q ∷ a) h = (tt, all_standing P a h)

  -- from the spots to the line
  pub on_line : (P : Task → Type 0) (ys : List Mark) (a : List (Item Numbered)) → places ys ≡ map (task_of j) (standing a)
      → ((o : Task) → In (place o) ys → P o) → All (Spots P) a
  on_line P ys a e h = all_standing P a (subst (All P) e (all_places P ys h))

  -- no task of a line pops from queue q; no point of queue q is on a line
  abbrev pub NoPop : ℕ → Item Numbered → Type 0
  NoPop q = Spots (λ s. mayPop (rights_of s) q ≡ false)

  abbrev pub NoPoint : ℕ → Item Numbered → Type 0
  NoPoint q (value p v) = p ≡ q → ⊥
  NoPoint q (spot n) = uses (rights_of (task_of j n)) q ≡ false
  NoPoint q (finished n) = Unit {0}
  NoPoint q (gave p) = Unit {0}

  pub no_points : (q : ℕ) (a : List (Item Numbered)) → All (NoPoint q) a → points_of j q a ≡ []
  unfolding points_of
  no_points q [] h = refl
  no_points q (value p v ∷ a) h = value_past j q p v a h.0 ∙ no_points q a h.1
  no_points q (spot n ∷ a) h = point_is j q n a ∙ pass _ h.0 (no_points q a h.1)
  no_points q (finished n ∷ a) h = no_points q a h.1
  no_points q (gave p ∷ a) h = no_points q a h.1

  -- the first value of queue q on the line a is v: what stands before it and what stands behind it
  pub record FirstValue (q v : ℕ) (a : List (Item Numbered)) : Type 0 where
    pub front : List (Item Numbered)
    pub back : List (Item Numbered)
    pub parts : a ≡ front ++ value q v ∷ back
    pub bare : All (NoPoint q) front
    pub quiet : All (NoPop q) back

  value_later : (q v : ℕ) (x : Item Numbered) (a : List (Item Numbered)) → NoPoint q x → FirstValue q v a → FirstValue q v (x ∷ a)
  value_later q v x a d w =
      record { front = x ∷ w.front; back = w.back; parts = ap (λ (l : List (Item Numbered)). x ∷ l) w.parts; bare = (d, w.bare); quiet = w.quiet }

  module _ (q : ℕ) (b : List (Item Numbered)) (n : Numbered) (u : uses (rights_of (task_of j n)) q ≡ true) where
    abbrev t : ℕ
    t = number_of (task_of j n)

    -- what stands first of the queue, up to the task
    abbrev First : List (Item Numbered) → Finding
    First a = first_of t (points_of j q (a ++ spot n ∷ b))

    later : (x : Item Numbered) (a : List (Item Numbered)) → points_of j q (x ∷ (a ++ spot n ∷ b)) ≡ points_of j q (a ++ spot n ∷ b) → First (x ∷ a) ≡ First a
    later x a e = ap (first_of t) e

    spot_first : (m : Numbered) (l : List (Item Numbered)) → uses (rights_of (task_of j m)) q ≡ true
        → first_of t (points_of j q (spot m ∷ l)) ≡ first_of t (user (number_of (task_of j m)) ∷ points_of j q l)
    spot_first m l e = ap (first_of t) (point_is j q m l ∙ halt _ _ e)

    value_at : (r v : ℕ) (l : List (Item Numbered)) → r ≡ q → first_of t (points_of j q (value r v ∷ l)) ≡ Value v
    unfolding first_of
    value_at r v l d = ap (λ (x : ℕ). first_of t (points_of j q (value x v ∷ l))) d ∙ ap (first_of t) (value_here j q v l)

    -- a value is the first
    pub first_value : (v : ℕ) (a : List (Item Numbered)) → All (NoPop q) a → First a ≡ Value v → FirstValue q v a
    first_value v [] p e = absurd (user_value t t v _ (sym (spot_first n b u) ∙ e))
    first_value v (value r w ∷ a) p e = ⊎_elim here (past (first_value v a p.1)) (equal? r q)
      where
        here : r ≡ q → FirstValue q v (value r w ∷ a)
        here d =
            let same : w ≡ v = same_value (sym (value_at r w (a ++ spot n ∷ b) d) ∙ e) in
            let parts : value r w ∷ a ≡ value q v ∷ a = cc in
            record { front = []; back = a; parts = parts; bare = tt; quiet = p.1 }

        past : (First a ≡ Value v → FirstValue q v a) → (r ≡ q → ⊥) → FirstValue q v (value r w ∷ a)
        past rest d = value_later q v (value r w) a d (rest (sym (later (value r w) a (value_past j q r w (a ++ spot n ∷ b) d)) ∙ e))
    first_value v (spot m ∷ a) p e = go (uses (rights_of (task_of j m)) q) refl (first_value v a p.1)
      where
        go : (c : Bool) → uses (rights_of (task_of j m)) q ≡ c → (First a ≡ Value v → FirstValue q v a) → FirstValue q v (spot m ∷ a)
        go true d rest = absurd (user_value t (number_of (task_of j m)) v _ (sym (spot_first m (a ++ spot n ∷ b) d) ∙ e))
        go false d rest =
            value_later q v (spot m) a d (rest (sym (later (spot m) a (point_is j q m (a ++ spot n ∷ b) ∙ pass _ d refl)) ∙ e))
    first_value v (finished m ∷ a) p e =
        value_later q v (finished m) a tt (first_value v a p.1 (sym (later (finished m) a (finished_past j q m (a ++ spot n ∷ b))) ∙ e))
    first_value v (gave r ∷ a) p e = value_later q v (gave r) a tt (first_value v a p.1 (sym (later (gave r) a (gave_past j q r (a ++ spot n ∷ b))) ∙ e))

    -- nothing is there
    pub first_nothing : (a : List (Item Numbered)) → All (Spots (λ s. number_of s ≡ t → ⊥)) a → First a ≡ Empty → All (NoPoint q) a
    first_nothing [] p e = tt
    first_nothing (value r w ∷ a) p e = ⊎_elim here (past (first_nothing a p.1)) (equal? r q)
      where
        here : r ≡ q → All (NoPoint q) (value r w ∷ a)
        here d = value_empty (sym (value_at r w (a ++ spot n ∷ b) d) ∙ e)

        past : (First a ≡ Empty → All (NoPoint q) a) → (r ≡ q → ⊥) → All (NoPoint q) (value r w ∷ a)
        past rest d = (d, rest (sym (later (value r w) a (value_past j q r w (a ++ spot n ∷ b) d)) ∙ e))
    first_nothing (spot m ∷ a) p e = go (uses (rights_of (task_of j m)) q) refl (first_nothing a p.1)
      where
        go : (c : Bool) → uses (rights_of (task_of j m)) q ≡ c → (First a ≡ Empty → All (NoPoint q) a) → All (NoPoint q) (spot m ∷ a)
        go true d rest = absurd (p.0 (user_empty t (number_of (task_of j m)) _ (sym (spot_first m (a ++ spot n ∷ b) d) ∙ e)))
        go false d rest = (d, rest (sym (later (spot m) a (point_is j q m (a ++ spot n ∷ b) ∙ pass _ d refl)) ∙ e))
    first_nothing (finished m ∷ a) p e = (tt, first_nothing a p.1 (sym (later (finished m) a (finished_past j q m (a ++ spot n ∷ b))) ∙ e))
    first_nothing (gave r ∷ a) p e = (tt, first_nothing a p.1 (sym (later (gave r) a (gave_past j q r (a ++ spot n ∷ b))) ∙ e))
