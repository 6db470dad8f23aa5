-- Tasks are woken one after another.
use Rattle.std.proofs.Common.{◌≡◌, inl, inr, Bool, true, List, [], ◌∷◌, ◌++◌, refl, sym, ap, subst, ◌∙◌, arith, append_assoc, append-nil, length-append, IsPermutation}
use Rattle.std.specs.Cmp.{IsEquivalence}
use Rattle.std.proofs.lemmas.List.{map-append}
use Rattle.std.proofs.lemmas.List.Sorted.{IsPermutation-append_right, IsPermutation-map, IsPermutation-sym, length_permutation}
use Rattle.lvish_names.specs.Names.{Name}
use Rattle.lvish_calculus.specs.Handing.{IsAmong, NoRepeats}
use Rattle.lvish_core.specs.laws.Lists.{either_among, among_first, among_last, among_map}
use Rattle.lvish_board.specs.Stand.{TaskStand}
use Rattle.lvish_board.specs.Board.{tasks_of}
use Rattle.lvish_board.specs.Waking.{Wakes}
use Rattle.lvish_board.specs.Woken.{IsWoken}
use Rattle.lvish_board.proofs.Among.{at_middle, in_middle, once_first, once_last, once_less, once_moved, once_permuted, among_permuted}

module _ {E L : Type 0} where
  pub tasks_append : (ps qs : List (TaskStand E L)) → tasks_of (ps ++ qs) ≡ tasks_of ps ++ tasks_of qs
  tasks_append ps qs = map-append (λ (p : TaskStand E L). p.task) ps qs

  -- the task of a place of the list is a task of the list
  pub task_among : (p : TaskStand E L) (ps : List (TaskStand E L)) → IsAmong p ps → IsAmong p.task (tasks_of ps)
  task_among p ps i = among_map (λ (q : TaskStand E L). q.task) p ps i

  once_moved_task : (p : TaskStand E L) (bs xs ys : List (TaskStand E L)) → NoRepeats (tasks_of (bs ++ (xs ++ p ∷ ys))) → NoRepeats (tasks_of ((bs ++ p ∷ []) ++ (xs ++ ys)))
  once_moved_task p bs xs ys n =
      let here : tasks_of (bs ++ (xs ++ p ∷ ys)) ≡ tasks_of bs ++ (tasks_of xs ++ p.task ∷ tasks_of ys) = tasks_append bs (xs ++ p ∷ ys) ∙ ap (λ ts. tasks_of bs ++ ts) (tasks_append xs (p ∷ ys)) in
      let there : tasks_of ((bs ++ p ∷ []) ++ (xs ++ ys)) ≡ (tasks_of bs ++ p.task ∷ []) ++ (tasks_of xs ++ tasks_of ys) =
      tasks_append (bs ++ p ∷ []) (xs ++ ys) ∙ ap (λ ts. ts ++ tasks_of (xs ++ ys)) (tasks_append bs (p ∷ [])) ∙ ap (λ ts. (tasks_of bs ++ p.task ∷ []) ++ ts) (tasks_append xs ys) in
      subst (λ ts. NoRepeats ts) (sym there) (once_moved p.task (tasks_of bs) (tasks_of xs) (tasks_of ys) (subst (λ ts. NoRepeats ts) here n))

  -- of the others none is of its task
  pub task_gone : (p : TaskStand E L) (xs ys : List (TaskStand E L)) → NoRepeats (tasks_of (xs ++ p ∷ ys)) → IsAmong p.task (tasks_of (xs ++ ys)) → ⊥
  task_gone p xs ys n i =
      (once_less p.task (tasks_of xs) (tasks_of ys) (subst (λ ts. NoRepeats ts) (tasks_append xs (p ∷ ys)) n)).0 (subst (λ ts. IsAmong p.task ts) (tasks_append xs ys) i)

module _ {E L : Type 0} (Can : TaskStand E L → Type 0) where
  -- none is woken
  pub wakes_none : (May : TaskStand E L → Type 0) (old before : List (TaskStand E L)) → ((p : TaskStand E L) → IsAmong p old → May p → Can p → ⊥) → Wakes Can May old old before before
  wakes_none May old before none = record {
    more = [];
    adds = sym (append-nil before);
    woken = record {
      were = λ p i. absurd i;
      stay = λ p i. (i, λ j. j);
      split = λ p i. inr i;
      left = none;
    };
    count = refl;
    once = λ n. n;
  }

  -- one is woken, the only one of its task
  pub wakes_one : (May : TaskStand E L → Type 0) (p : TaskStand E L) (xs ys before : List (TaskStand E L)) → NoRepeats (tasks_of (xs ++ p ∷ ys)) → Can p → ((q : TaskStand E L) → May q → q.task ≡ p.task)
      → Wakes Can May (xs ++ p ∷ ys) (xs ++ ys) before (before ++ p ∷ [])
  wakes_one May p xs ys before once can same = record {
    more = p ∷ [];
    adds = refl;
    woken = record {
      were = λ q i. elim i [
        | inl e ↦ (in_middle q p xs ys (inl e), subst Can (sym e) can)
        | inr j ↦ absurd j
      ];
      stay = λ q i. (
        in_middle q p xs ys (inr i),
        λ j. elim j [
          | inl e ↦ task_gone p xs ys once (subst (λ r. IsAmong r.task (tasks_of (xs ++ ys))) e (task_among q (xs ++ ys) i))
          | inr k ↦ k
        ],
      );
      split = λ q i. elim (at_middle q p xs ys i) [
        | inl e ↦ inl (inl e)
        | inr j ↦ inr j
      ];
      left = λ q i may c. task_gone p xs ys once (subst (λ t. IsAmong t (tasks_of (xs ++ ys))) (same q may) (task_among q (xs ++ ys) i));
    };
    count = omega (arith, length-append before (p ∷ []), length-append xs (p ∷ ys), length-append xs ys);
    once = once_moved_task p before xs ys;
  }

  -- one waking after another
  pub wakes_then : (May One Two : TaskStand E L → Type 0) (old mid new before between after : List (TaskStand E L)) → Wakes Can One old mid before between → Wakes Can Two mid new between after
      → ((p : TaskStand E L) → IsAmong p mid → IsAmong p new → (One p → Can p → ⊥) → (Two p → Can p → ⊥) → May p → Can p → ⊥) → Wakes Can May old new before after
  wakes_then May One Two old mid new before between after w z left = record {
    more = w.more ++ z.more;
    adds = z.adds ∙ ap (λ ps. ps ++ z.more) w.adds ∙ append_assoc before w.more z.more;
    woken = record {
      were = λ p i. elim (either_among p w.more z.more i) [
        | inl j ↦ w.woken.were p j
        | inr j ↦ let r = z.woken.were p j in ((w.woken.stay p r.0).0, r.1)
      ];
      stay = λ p i.
          let r = z.woken.stay p i in
          let s = w.woken.stay p r.0 in (
            s.0,
            λ j. elim (either_among p w.more z.more j) [
              | inl k ↦ s.1 k
              | inr k ↦ r.1 k
            ],
          );
      split = λ p i. elim (w.woken.split p i) [
        | inl j ↦ inl (among_first p w.more z.more j)
        | inr j ↦ elim (z.woken.split p j) [
          | inl k ↦ inl (among_last p w.more z.more k)
          | inr k ↦ inr k
        ]
      ];
      left = λ p i. let r = z.woken.stay p i in left p r.0 i (w.woken.left p r.0) (z.woken.left p i);
    };
    count = z.count ∙ w.count;
    once = λ n. z.once (w.once n);
  }

  -- of fewer that may go on
  pub wakes_fewer : (May Other : TaskStand E L → Type 0) (old new before after : List (TaskStand E L)) → Wakes Can Other old new before after → ((p : TaskStand E L) → IsAmong p new → May p → Other p) → Wakes Can May old new before after
  wakes_fewer May Other old new before after w fewer = record {
    more = w.more;
    adds = w.adds;
    woken = record {
      were = w.woken.were;
      stay = w.woken.stay;
      split = w.woken.split;
      left = λ p i may c. w.woken.left p i (fewer p i may) c;
    };
    count = w.count;
    once = w.once;
  }

  -- in another order the same are woken
  pub woken_permuted : (May : TaskStand E L → Type 0) (old new xs ys : List (TaskStand E L)) → IsWoken Can May old new xs → IsPermutation xs ys → IsPermutation ys xs → IsWoken Can May old new ys
  woken_permuted May old new xs ys w to back = record {
    were = λ p i. w.were p (among_permuted p ys xs back i);
    stay = λ p i. let r = w.stay p i in (r.0, λ j. r.1 (among_permuted p ys xs back j));
    split = λ p i. elim (w.split p i) [
      | inl j ↦ inl (among_permuted p xs ys to j)
      | inr j ↦ inr j
    ];
    left = w.left;
  }

  -- and so are they where the others lie in another order
  pub wakes_permuted : {eq : Name E → Name E → Bool} → IsEquivalence eq → ((t u : Name E) → eq t u ≡ true → t ≡ u) → (May : TaskStand E L → Type 0) (old new others before after : List (TaskStand E L)) → IsPermutation new others → Wakes Can May old new before after → Wakes Can May old others before after
  wakes_permuted laws exact May old new others before after to w =
      let back = IsPermutation-sym new others to in
      let all = IsPermutation-append_right after new others to in
      record {
        more = w.more;
        adds = w.adds;
        woken = record {
          were = w.woken.were;
          stay = λ p i. w.woken.stay p (among_permuted p others new back i);
          split = λ p i. elim (w.woken.split p i) [
            | inl j ↦ inl j
            | inr j ↦ inr (among_permuted p new others to j)
          ];
          left = λ p i. w.woken.left p (among_permuted p others new back i);
        };
        count = let same = length_permutation new others to in let count = w.count in omega arith;
        once = λ n. once_permuted laws exact (tasks_of (after ++ new)) (tasks_of (after ++ others)) (IsPermutation-map (λ p. p.task) (after ++ new) (after ++ others) all) (w.once n);
      }

  -- or where those of before do
  pub wakes_from : {eq : Name E → Name E → Bool} → IsEquivalence eq → ((t u : Name E) → eq t u ≡ true → t ≡ u) → (May : TaskStand E L → Type 0) (old others new before after : List (TaskStand E L)) → IsPermutation old others → Wakes Can May old new before after → Wakes Can May others new before after
  wakes_from laws exact May old others new before after to w =
      let back = IsPermutation-sym old others to in
      let all = IsPermutation-append_right before others old back in
      record {
        more = w.more;
        adds = w.adds;
        woken = record {
          were = λ p i. let r = w.woken.were p i in (among_permuted p old others to r.0, r.1);
          stay = λ p i. let r = w.woken.stay p i in (among_permuted p old others to r.0, r.1);
          split = λ p i. w.woken.split p (among_permuted p others old back i);
          left = w.woken.left;
        };
        count = let same = length_permutation old others to in let count = w.count in omega arith;
        once = λ n. w.once (once_permuted laws exact (tasks_of (before ++ others)) (tasks_of (before ++ old)) (IsPermutation-map (λ p. p.task) (before ++ others) (before ++ old) all) n);
      }

  -- of equal lists
  pub wakes_at : (May : TaskStand E L → Type 0) (old new left before none after woken : List (TaskStand E L)) → left ≡ new → before ≡ none → woken ≡ after → Wakes Can May old new before after → Wakes Can May old left none woken
  wakes_at May old new left before none after woken n b a w =
      subst (λ xs. Wakes Can May old left none xs) (sym a) (subst (λ xs. Wakes Can May old left xs after) b (subst (λ xs. Wakes Can May old xs before after) (sym n) w))

  -- where none was woken before, those that were woken are these, each once
  pub woken_alone : (May : TaskStand E L → Type 0) (old new after : List (TaskStand E L)) → Wakes Can May old new [] after → IsWoken Can May old new after
  woken_alone May old new after w = subst (λ ps. IsWoken Can May old new ps) (sym w.adds) w.woken

  pub woken_once : (May : TaskStand E L → Type 0) (old new after : List (TaskStand E L)) → Wakes Can May old new [] after → NoRepeats (tasks_of old) → NoRepeats (tasks_of after) × NoRepeats (tasks_of new)
  woken_once May old new after w n =
      let both : NoRepeats (tasks_of after ++ tasks_of new) = subst (λ ts. NoRepeats ts) (tasks_append after new) (w.once n) in (
        once_first (tasks_of after) (tasks_of new) both,
        once_last (tasks_of after) (tasks_of new) both,
      )
