-- What writes no link and no free task record keeps the tree.
use Rattle.std.specs.Prelude.{◌≡◌, List, [], ◌∷◌, ℕ, ◌*◌, ◌-◌, ◌<◌, ◌≤◌, length, drop, take}
use Rattle.std.proofs.Common.{ap, ap₂, sym, ◌∙◌, subst, inl, inr, ⊎_elim, arith}
use Rattle.spec_words.specs.Words.{size}
use Rattle.spec_lists.specs.Counting.{occurrences}
use Rattle.spec_lists.specs.Distinct.{Distinct}
use Rattle.spec_layout.specs.Layout.{WORDS, FREE_TASKS, STATUS, RIGHTS, PARENT, OLDER, YOUNGER, YOUNGEST, free_tasks, free_task, task, read}
use Rattle.spec_tree.specs.Rights.{subset}
use Rattle.spec_rules.specs.Contents.{Contents, decode, word}
use Rattle.law_rules_tasks.specs.Marks.{Kin}
use Rattle.law_rules_tasks.specs.Tested.{Top, Idle, top_says, says_top, idle_says, says_idle}
use Rattle.spec_order.specs.Steps.{Task, Item, spot, number_of}
use Rattle.law_order.specs.Items.{In}
use Rattle.law_links.specs.Row.{Leads, childless, child, oldest, older, Each, row_keep}
use Rattle.law_links.specs.Linked.{numbers_back, Linked, word_is, spot_unfinished}
use Rattle.law_links.specs.Idle.{idle_height, same_stack}

-- the words of the tree are the same in n as in m
pub record SameLinks (m n : List ℕ) : Type 0 where
  pub sized : size n ≡ WORDS
  pub words : (t k : ℕ) → t < 128 → k < 6 → read n (task t k) ≡ read m (task t k)
  pub height : read n free_tasks ≡ read m free_tasks
  pub stack : (i : ℕ) → i < 128 → read n (free_task i) ≡ read m (free_task i)

module _ (m n : List ℕ) (w : SameLinks m n) where
  abbrev c : Contents
  c = decode m

  abbrev d : Contents
  d = decode n

  pub same_word : (t k : ℕ) → t < 128 → k < 6 → word d t k ≡ word c t k
  same_word t k a b = word_is n t k ∙ w.words t k a b ∙ sym (word_is m t k)

  same_kin : (t p y : ℕ) → p < 128 → Kin c t p y → Kin d t p y
  same_kin t p y l k =
      let b = k.below in
      record {
        above = k.above;
        below = b;
        status = same_word t STATUS b (omega arith) ∙ k.status;
        parent = same_word t PARENT b (omega arith) ∙ k.parent;
        younger = same_word t YOUNGER b (omega arith) ∙ k.younger;
        rights = ap₂ subset (same_word t RIGHTS b (omega arith)) (same_word p RIGHTS l (omega arith)) ∙ k.rights;
      }

  pub same_leads : (x y : ℕ) → Leads c x y → Leads d x y
  same_leads x y (childless {t} l e) = childless l (same_word t YOUNGEST l (omega arith) ∙ e)
  same_leads x y (child {t} {y = u} l e k) = child l (same_word t YOUNGEST l (omega arith) ∙ e) (same_kin u t _ l k)
  same_leads x y (oldest {t} {p} z l e i f) = oldest z l (same_word t PARENT l (omega arith) ∙ e) i (same_word t OLDER l (omega arith) ∙ f)
  same_leads x y (older {t} {y = u} {p} z l e i f k) =
      older z l (same_word t PARENT l (omega arith) ∙ e) i (same_word t OLDER l (omega arith) ∙ f) (same_kin u p t i k)

  each_leads : (l : List ℕ) → Each c d l
  each_leads [] = tt
  each_leads (x ∷ l) = (same_leads x, each_leads l)

  same_top : Top c → Top d
  same_top t =
      let z : 0 < 128 = omega arith in
      record {
        status =
            ⊎_elim (λ e. inl (same_word 0 STATUS z (omega arith) ∙ e))
            (λ e. inr (same_word 0 STATUS z (omega arith) ∙ e.0, same_word 0 YOUNGEST z (omega arith) ∙ e.1)) t.status;
        rights = same_word 0 RIGHTS z (omega arith) ∙ t.rights;
        parent = same_word 0 PARENT z (omega arith) ∙ t.parent;
        older = same_word 0 OLDER z (omega arith) ∙ t.older;
        younger = same_word 0 YOUNGER z (omega arith) ∙ t.younger;
      }

  pub same_idle : size m ≡ WORDS → length c.idle ≤ 127 → d.idle ≡ c.idle
  same_idle s few =
      let h = idle_height m s few in
      ap (λ (k : ℕ). take k (drop FREE_TASKS n)) w.height
      ∙ same_stack m n s w.sized (read m free_tasks) (omega (arith, h)) (λ i l. w.stack i (omega (arith, l, h)))

  -- the idle records are still free
  kept_idle : (e : d.idle ≡ c.idle) → Idle c → Idle d
  kept_idle e i =
      record {
        few = subst (λ (l : List ℕ). length l ≤ 127) (sym e) i.few;
        apart = subst (λ (l : List ℕ). Distinct 128 l) (sym e) i.apart;
        above = λ t p. i.above t (subst (λ (l : List ℕ). 0 < occurrences t l) e p);
        free = λ t p.
            let q = subst (λ (l : List ℕ). 0 < occurrences t l) e p in
            same_word t STATUS (i.apart.below t q) (omega arith) ∙ i.free t q;
      }

  -- The same tree for a list with the same spots.
  pub keeps_linked : (T : List ℕ) (xs ys : List Item) → Linked m T xs → numbers_back ys ≡ numbers_back xs → ((s : Task) → In (spot s) ys → In (spot s) xs)
      → Linked n T ys
  keeps_linked T xs ys h e back =
      let i = idle_says c h.idle in
      let f = same_idle h.sized i.few in
      let small : (s : Task) → In (spot s) xs → number_of s < 128 = λ s j. (spot_unfinished m T xs h s j).0 in
      record {
        sized = w.sized;
        top = says_top d (same_top (top_says c h.top));
        idle = says_idle d (kept_idle f i);
        first = h.first;
        row = row_keep c d T (each_leads T) h.row;
        many = h.many ∙ ap (λ (l : List ℕ). 2 * (128 - length l)) (sym f);
        running = w.words 0 STATUS (omega arith) (omega arith) ∙ h.running;
        spots = h.spots ∙ sym e;
        rights = λ s j. w.words (number_of s) RIGHTS (small s (back s j)) (omega arith) ∙ h.rights s (back s j);
        parents = λ s o k j l a. w.words (number_of s) PARENT (small s (back s j)) (omega arith) ∙ h.parents s o k (back s j) (back o l) a;
        ages = λ s o j l a. h.ages s o (back s j) (back o l) (sym (w.words (number_of s) OLDER (small s (back s j)) (omega arith)) ∙ a);
      }
