-- What a task puts, a search may go past where it may go past the task.
use Rattle.std.specs.Prelude.{List, [], ◌∷◌, ℕ}
use Rattle.spec_lists.specs.Maps.{All}
use Rattle.spec_line.specs.Line.{Item, spot, Search, Acts}
use Rattle.spec_line.specs.Rights.{Passes, Under, passes_item, put_under, Tasks, Passing}

module _ {S : Type 0} (Pushes Pops : S → ℕ → Type 0) where
  passes_all : (n : Search) (s : S) (xs : List (Item S)) → All (Under Pushes Pops s) xs → Passes Pushes Pops n (spot s) → All (Passes Pushes Pops n) xs
  passes_all n s [] u p = tt
  passes_all n s (x ∷ xs) u p = (passes_item Pushes Pops n s x u.0 p, passes_all n s xs u.1 p)

module _ {S : Type 0} (T : Tasks S) where
  pub put_passes : (s : S) (m n : Search) (xs : List (Item S)) → Acts m (T.next s) xs → Passing T n (spot s) → All (Passing T n) xs
  put_passes s m n xs d p =
      passes_all T.Pushes T.Pops n s xs (put_under T.Pushes T.Pops s (T.next s) m xs (T.within s) d) p
