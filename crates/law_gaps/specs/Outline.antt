-- THE OUTLINE OF A LINE: its marks without the chains. Lines with one outline have the same marks, for the same tasks.
use Rattle.std.specs.Prelude.{◌≡◌, refl, Bool, List, [], ◌∷◌, ◌++◌, ℕ, ◌+◌}
use Rattle.std.proofs.Common.{ap, sym, ◌∙◌, subst}
use Rattle.spec_lists.specs.Maps.{All}
use Rattle.law_gaps.specs.Line.{base, exited, entered, pass, Line, marks, exits, entries, Fits}
use Rattle.law_gaps.specs.Store.{Once}

abbrev pub outline : Line → Line
outline [] = []
outline (base c ∷ l) = base [] ∷ outline l
outline (exited t ∷ l) = exited t ∷ outline l
outline (entered t c ∷ l) = entered t [] ∷ outline l
outline (pass x ∷ l) = pass x ∷ outline l

outline_marks : (l : Line) → marks (outline l) ≡ marks l
outline_marks [] = refl
outline_marks (base c ∷ l) = outline_marks l
outline_marks (exited t ∷ l) = ap (λ (k : List ℕ). (128 + t) ∷ k) (outline_marks l)
outline_marks (entered t c ∷ l) = ap (λ (k : List ℕ). t ∷ k) (outline_marks l)
outline_marks (pass x ∷ l) = ap (λ (k : List ℕ). x ∷ k) (outline_marks l)

outline_exits : (l : Line) → exits (outline l) ≡ exits l
outline_exits [] = refl
outline_exits (base c ∷ l) = outline_exits l
outline_exits (exited t ∷ l) = ap (λ (k : List ℕ). t ∷ k) (outline_exits l)
outline_exits (entered t c ∷ l) = outline_exits l
outline_exits (pass x ∷ l) = outline_exits l

outline_entries : (l : Line) → entries (outline l) ≡ entries l
outline_entries [] = refl
outline_entries (base c ∷ l) = outline_entries l
outline_entries (exited t ∷ l) = outline_entries l
outline_entries (entered t c ∷ l) = ap (λ (k : List ℕ). t ∷ k) (outline_entries l)
outline_entries (pass x ∷ l) = outline_entries l

fits_outline : (uses : ℕ → Bool) (l : Line) → All (Fits uses) l → All (Fits uses) (outline l)
fits_outline uses [] h = tt
fits_outline uses (base c ∷ l) h = (tt, fits_outline uses l h.1)
fits_outline uses (exited t ∷ l) h = (h.0, fits_outline uses l h.1)
fits_outline uses (entered t c ∷ l) h = (h.0, fits_outline uses l h.1)
fits_outline uses (pass x ∷ l) h = (h.0, fits_outline uses l h.1)

outline_fits : (uses : ℕ → Bool) (l : Line) → All (Fits uses) (outline l) → All (Fits uses) l
outline_fits uses [] h = tt
outline_fits uses (base c ∷ l) h = (tt, outline_fits uses l h.1)
outline_fits uses (exited t ∷ l) h = (h.0, outline_fits uses l h.1)
outline_fits uses (entered t c ∷ l) h = (h.0, outline_fits uses l h.1)
outline_fits uses (pass x ∷ l) h = (h.0, outline_fits uses l h.1)

pub outline_behind : (b k l : Line) → outline k ≡ outline l → outline (b ++ k) ≡ outline (b ++ l)
outline_behind [] k l e = e
outline_behind (base c ∷ b) k l e = ap (λ (x : Line). base [] ∷ x) (outline_behind b k l e)
outline_behind (exited t ∷ b) k l e = ap (λ (x : Line). exited t ∷ x) (outline_behind b k l e)
outline_behind (entered t c ∷ b) k l e = ap (λ (x : Line). entered t [] ∷ x) (outline_behind b k l e)
outline_behind (pass y ∷ b) k l e = ap (λ (x : Line). pass y ∷ x) (outline_behind b k l e)

-- lines with one outline
module _ (k l : Line) (e : outline k ≡ outline l) where
  pub same_marks : marks k ≡ marks l
  same_marks = sym (outline_marks k) ∙ (ap marks e ∙ outline_marks l)

  pub same_exits : exits k ≡ exits l
  same_exits = sym (outline_exits k) ∙ (ap exits e ∙ outline_exits l)

  pub same_entries : entries k ≡ entries l
  same_entries = sym (outline_entries k) ∙ (ap entries e ∙ outline_entries l)

  pub same_fits : (uses : ℕ → Bool) → All (Fits uses) l → All (Fits uses) k
  same_fits uses h = outline_fits uses k (subst (All (Fits uses)) (sym e) (fits_outline uses l h))

  pub same_once : Once l → Once k
  same_once h x = rw (same_exits, same_entries) (h x)
