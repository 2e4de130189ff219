-- THE LINE UNDER STEPS: where task n makes a step, the line with other items in place of its spot stands beside program order.
use Rattle.std.specs.Prelude.{◌≡◌, Bool}
use Rattle.std.proofs.Math.Path.{refl, ap, ap₂, sym, subst}
use Rattle.std.proofs.Common.{◌∙◌, ne_eqb}
use Rattle.std.proofs.Math.Logic.{⊎_elim}
use Rattle.std.proofs.Math.Bool.{true, false}
use mathlib.Core.List.{List, [], ◌∷◌, ◌++◌, map, map-append}
use Prim.Native.Nat.{ℕ, ◌+◌, ◌<◌, ◌≤◌}
use Rattle.spec_words.specs.Words.{pick, halt, pass}
use Rattle.spec_lists.specs.Counting.{equal?}
use Rattle.spec_tree.specs.Rights.{uses, subset}
use Rattle.spec_order.specs.Steps.{Task, task, Item as Mark, spot as place, Act, spawns, pushes, finishes, name_of, number_of, rights_of, made, advance}
use Rattle.law_order.specs.Count.{count, spot_numbered}
use Rattle.law_order.specs.Numbers.{advance_at, one_number}
use Rattle.law_order.specs.Reached.{Reached}
use Rattle.law_order.specs.Courses.{plain}
use Rattle.law_order.specs.Moves.{made_plain, made_finish, plain_push}
use Rattle.law_order_waits.specs.Played.{kids_of, child_of}
use Rattle.law_order_queue.specs.Points.{Point, value as present, user, added, takes, Timeline}
use Rattle.law_order_queue.specs.Laws.{plain_line, push_line, finish_line, finish_past, spawn_line, spawn_past}
use Rattle.spec_line.specs.Line.{Item, value, spot, finished}
use Rattle.spec_tree.specs.Users.{subset_pops, subset_uses}
use Rattle.law_job_order.specs.Beside.{Numbered, standing, places, task_of, points_of, Beside}
use Rattle.law_job_order.specs.Points.{places_append, standing_append, points_append, point_is, value_here, value_past, points_swap}
use Rattle.law_job_order.specs.Located.{Located, located, tasks_at}

-- a push concerns one queue only
push_quiet : (q p v : ℕ) → (p ≡ q → ⊥) → (added p (pushes q v) ≡ []) × (takes p (pushes q v) ≡ 0)
unfolding added takes
push_quiet q p v n = (pass _ (ne_eqb q p (λ e. n (sym e))) refl, refl)

-- the task with one child more
unfoldable pub grown : Task → Task
grown (task p t r k) = task p t r (k + 1)

module _ (j : List ℕ) where
  -- the points of a spot hang on the number and the rights of its task
  points_like : (q : ℕ) (m n : Numbered) (a b : List (Item Numbered)) → number_of (task_of j m) ≡ number_of (task_of j n)
      → rights_of (task_of j m) ≡ rights_of (task_of j n) → points_of j q (a ++ spot m ∷ b) ≡ points_of j q (a ++ spot n ∷ b)
  points_like q m n a b e f =
      points_swap j q a (spot m ∷ b) (spot n ∷ b)
      (point_is j q m b
      ∙ ap₂ (λ (t r : ℕ). pick (uses r q) (user t ∷ points_of j q b) (points_of j q b)) e f
      ∙ sym (point_is j q n b))

  pub points_same : (q : ℕ) (m n : Numbered) (a b : List (Item Numbered)) → task_of j m ≡ task_of j n
      → points_of j q (a ++ spot m ∷ b) ≡ points_of j q (a ++ spot n ∷ b)
  points_same q m n a b e = points_like q m n a b (ap number_of e) (ap rights_of e)

  -- a spot with another state of the same task
  pub same_beside : {xs : List Mark} (a b : List (Item Numbered)) (m n : Numbered) → task_of j m ≡ task_of j n → Beside j xs (a ++ spot n ∷ b)
      → Beside j xs (a ++ spot m ∷ b)
  same_beside {xs} a b m n e h =
      record {
        tasks =
            h.tasks
            ∙ tasks_at j a b n
            ∙ ap (λ (s : Task). map (task_of j) (standing a) ++ s ∷ map (task_of j) (standing b)) (sym e)
            ∙ sym (tasks_at j a b m);
        queues = λ q i. subst (Timeline q xs) (sym (points_same q m n a b e)) (h.queues q i);
      }

module _ (j : List ℕ) {xs : List Mark} (reached : Reached xs) (a b : List (Item Numbered)) (n : Numbered) (h : Beside j xs (a ++ spot n ∷ b)) where
  abbrev s : Task
  s = task_of j n

  abbrev at : Located j xs a b n
  at = located j a b n h

  abbrev pub Old : List Mark
  Old = at.before ++ place s ∷ at.behind

  pub single : count (spot_numbered (number_of s)) Old ≤ 1
  single = one_number (subst Reached at.here reached) (number_of s)

  pub time : (q : ℕ) → q < 4 → Timeline q Old (points_of j q (a ++ spot n ∷ b))
  time q i = subst (λ (l : List Mark). Timeline q l (points_of j q (a ++ spot n ∷ b))) at.here (h.queues q i)

  -- the task in the timeline of a queue it has a right to
  time_used : (q : ℕ) → q < 4 → uses (rights_of s) q ≡ true → Timeline q Old (points_of j q a ++ user (number_of s) ∷ points_of j q b)
  time_used q i u =
      subst (Timeline q Old)
      (points_append j q a (spot n ∷ b) ∙ ap (λ (l : List Point). points_of j q a ++ l) (point_is j q n b ∙ halt _ _ u)) (time q i)

  -- the items ms stand in place of the spot, and c in place of what was before it
  pub stepped : (act : Act) (c ms : List (Item Numbered)) → standing c ≡ standing a → map (task_of j) (standing ms) ≡ places (made s act)
      → ((q : ℕ) → q < 4 → Timeline q (advance (number_of s) act Old) (points_of j q (c ++ (ms ++ b)))) → Beside j (advance n.number act xs) (c ++ (ms ++ b))
  unfolding task_of number_of
  stepped act c ms e f g =
      subst (λ (l : List Mark). Beside j (advance n.number act l) (c ++ (ms ++ b))) (sym at.here)
      (record {
        tasks =
            ap places (advance_at at.before at.behind s act single)
            ∙ places_append at.before (made s act ++ at.behind)
            ∙ ap₂ (λ (k l : List Task). k ++ l) at.first (places_append (made s act) at.behind ∙ ap₂ (λ (k l : List Task). k ++ l) (sym f) at.last)
            ∙ sym
            (ap (map (task_of j)) (standing_append c (ms ++ b) ∙ ap₂ (λ (k l : List Numbered). k ++ l) e (standing_append ms b))
            ∙ map-append (task_of j) (standing a) (standing ms ++ standing b)
            ∙ ap (λ (l : List Task). map (task_of j) (standing a) ++ l) (map-append (task_of j) (standing ms) (standing b)));
        queues = g;
      })

  -- what a plain step puts
  pub plain_places : (act : Act) (m : Numbered) → plain act ≡ true → task_of j m ≡ s → task_of j m ∷ [] ≡ places (made s act)
  unfolding places
  plain_places act m p e = ap (λ (x : Task). x ∷ []) e ∙ sym (ap places (made_plain s act p))

  -- a step that says nothing of any queue
  pub plain_beside : (act : Act) (m : Numbered) → plain act ≡ true → ((q : ℕ) → (added q act ≡ []) × (takes q act ≡ 0)) → task_of j m ≡ s
      → Beside j (advance n.number act xs) (a ++ spot m ∷ b)
  unfolding standing
  plain_beside act m p quiet e =
      stepped act a (spot m ∷ []) refl (plain_places act m p e)
      (λ q i.
      subst (Timeline q (advance (number_of s) act Old)) (sym (points_same j q m n a b e))
      (plain_line q at.before at.behind s single act p (quiet q).0 (quiet q).1 (time q i)))

  pub push_beside : (w v : ℕ) (m : Numbered) → uses (rights_of s) w ≡ true → task_of j m ≡ s
      → Beside j (advance n.number (pushes w v) xs) (a ++ value w v ∷ spot m ∷ b)
  unfolding standing points_of
  push_beside w v m u e =
      stepped (pushes w v) a (value w v ∷ spot m ∷ []) refl (plain_places (pushes w v) m (plain_push w v) e)
      (λ q i. ⊎_elim (λ d. subst New d (pushed (subst (λ (x : ℕ). x < 4) (sym d) i))) (λ d. past q i d) (equal? w q))
    where
      New : ℕ → Type 0
      New q = Timeline q (advance (number_of s) (pushes w v) Old) (points_of j q (a ++ value w v ∷ spot m ∷ b))

      pushed : w < 4 → New w
      pushed i =
          subst (Timeline w (advance (number_of s) (pushes w v) Old))
          (sym
          (points_swap j w a (value w v ∷ spot m ∷ b) (value w v ∷ spot n ∷ b)
          (value_here j w v (spot m ∷ b) ∙ ap (λ (l : List Point). present v ∷ l) (points_same j w m n [] b e) ∙ sym (value_here j w v (spot n ∷ b)))
          ∙ points_append j w a (value w v ∷ spot n ∷ b)
          ∙ ap (λ (l : List Point). points_of j w a ++ l)
          (value_here j w v (spot n ∷ b) ∙ ap (λ (l : List Point). present v ∷ l) (point_is j w n b ∙ halt _ _ u))))
          (push_line w at.before at.behind s single (points_of j w a) (points_of j w b) v u (time_used w i u))

      past : (q : ℕ) → q < 4 → (w ≡ q → ⊥) → New q
      past q i d =
          let quiet = push_quiet w q v (λ f. d (sym f)) in
          subst (Timeline q (advance (number_of s) (pushes w v) Old))
          (sym (points_swap j q a (value w v ∷ spot m ∷ b) (spot m ∷ b) (value_past j q w v (spot m ∷ b) d) ∙ points_same j q m n a b e))
          (plain_line q at.before at.behind s single (pushes w v) (plain_push w v) quiet.0 quiet.1 (time q i))

  pub finish_beside : (m : Numbered) → Beside j (advance n.number finishes xs) (a ++ finished m ∷ b)
  unfolding standing places points_of
  finish_beside m =
      stepped finishes a (finished m ∷ []) refl (sym (ap places (made_finish s)))
      (λ q i.
      subst (Timeline q (advance (number_of s) finishes Old)) (sym (points_append j q a (finished m ∷ b))) (go q i (uses (rights_of s) q) refl))
    where
      go : (q : ℕ) → q < 4 → (c : Bool) → uses (rights_of s) q ≡ c → Timeline q (advance (number_of s) finishes Old) (points_of j q a ++ points_of j q b)
      go q i true u = finish_line q at.before at.behind s single (points_of j q a) (points_of j q b) u (time_used q i u)
      go q i false u =
          finish_past q at.before at.behind s single u
          (subst (Timeline q Old)
          (points_append j q a (spot n ∷ b) ∙ ap (λ (l : List Point). points_of j q a ++ l) (point_is j q n b ∙ pass _ u refl)) (time q i))

  -- the child's spot stands before the spawner's
  pub spawn_beside : (c r : ℕ) (k m : Numbered) → subset r (rights_of s) ≡ true → task_of j k ≡ child_of s c r → task_of j m ≡ grown s
      → Beside j (advance n.number (spawns c r) xs) (a ++ spot k ∷ spot m ∷ b)
  unfolding standing places made child_of grown task_of kids_of name_of number_of rights_of
  spawn_beside c r k m within e f =
      stepped (spawns c r) a (spot k ∷ spot m ∷ []) refl (ap₂ (λ (x y : Task). x ∷ y ∷ []) e f) (λ q i. go q i (uses r q) refl)
    where
      New : ℕ → Type 0
      New q = Timeline q (advance (number_of s) (spawns c r) Old) (points_of j q (a ++ spot k ∷ spot m ∷ b))

      -- the spawner's point is what it was
      again : (q : ℕ) → points_of j q (spot m ∷ b) ≡ points_of j q (spot n ∷ b)
      again q = points_like j q m n [] b (ap number_of f) (ap rights_of f)

      child : (q : ℕ) → points_of j q (spot k ∷ spot m ∷ b) ≡ pick (uses r q) (user c ∷ points_of j q (spot n ∷ b)) (points_of j q (spot n ∷ b))
      child q =
          point_is j q k (spot m ∷ b)
          ∙ ap₂ (λ (x : Task) (l : List Point). pick (uses (rights_of x) q) (user (number_of x) ∷ l) l) e (again q)

      go : (q : ℕ) → q < 4 → (d : Bool) → uses r q ≡ d → New q
      go q i true u =
          let v = subset_uses r (rights_of s) q i within u in
          subst (Timeline q (advance (number_of s) (spawns c r) Old))
          (sym
          (points_append j q a (spot k ∷ spot m ∷ b)
          ∙ ap (λ (l : List Point). points_of j q a ++ l) (child q ∙ halt _ _ u ∙ ap (λ (l : List Point). user c ∷ l) (point_is j q n b ∙ halt _ _ v))))
          (spawn_line q at.before at.behind _ _ _ _ c r single (points_of j q a) (points_of j q b) u v
          (subset_pops r (rights_of s) q i within) (time_used q i v))
      go q i false u =
          subst (Timeline q (advance (number_of s) (spawns c r) Old)) (sym (points_swap j q a (spot k ∷ spot m ∷ b) (spot n ∷ b) (child q ∙ pass _ u refl)))
          (spawn_past q at.before at.behind _ _ _ _ c r single u (time q i))
