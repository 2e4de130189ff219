-- Bytes that grow part by part.
use Rattle.std.proofs.Common.{ap, ◌∙◌, List, [], ◌∷◌, ◌++◌, ℕ}
use Rattle.std.proofs.lemmas.List.{append_assoc}
use Rattle.std.specs.Prelude.{Option, Some as known, None as unknown, Result as Outcome, Ok, Err, OnOk}
use Rattle.std.specs.Io.KnownBytes.{Appends}
use Rattle.read_file.specs.Said.{Says}

appends_then : (a b c : Option (List ℕ)) (xs ys : List ℕ) → Appends a b xs → Appends b c ys → Appends a c (xs ++ ys)
appends_then unknown b c xs ys p q = tt
appends_then (known as1) unknown c xs ys p q = absurd p
appends_then (known as1) (known bs) unknown xs ys p q = absurd q
appends_then (known as1) (known bs) (known cs) xs ys p q = q ∙ ap (λ (l : List ℕ). l ++ ys) p ∙ append_assoc as1 xs ys

-- four parts are the line
pub said : {E : Type 0} (r : Outcome (Unit {0}) E) (a b c d e : Option (List ℕ)) (what words : List ℕ) → Appends a b what → Appends b c (58 ∷ 32 ∷ [])
    → Appends c d words → OnOk r (Appends d e (10 ∷ [])) → OnOk r (Says a e what)
said (Ok x) a b c d e what words p q s t =
    (words, appends_then a d e _ (10 ∷ []) (appends_then a c d _ words (appends_then a b c what (58 ∷ 32 ∷ []) p q) s) t)
said (Err x) a b c d e what words p q s t = tt
