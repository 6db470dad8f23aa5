-- What holds of each task by its name, and of the procedures that handlers begin, holds along all runs.
use Rattle.std.proofs.Common.{◌≡◌, inl, inr, ℕ, suc, Bool, true, false, List, [], ◌∷◌, Option, Some, if◌then◌else◌, refl, sym, ◌∙◌, ap, subst}
use Rattle.lvish_names.specs.Names.{Name, main, forked, handed, Handler, same_name}
use Rattle.lvish_calculus.specs.declared.label.Label.{Label}
use Rattle.lvish_calculus.specs.declared.label.Label.TheVariants.{Act}
use Rattle.lvish_calculus.specs.declared.request.Reply.{Reply}
use Rattle.lvish_calculus.specs.declared.request.Reply.TheVariants.{Done, Answer, Content}
use Rattle.lvish_calculus.specs.declared.request.Request.TheVariants.{Fork, Add, Freeze}
use Rattle.lvish_calculus.specs.Machine.{Machine, IsLawful}
use Rattle.lvish_calculus.specs.Calculus.{Task, Absent, Live, Ended, Post, State, Running, Change, changed, start, IsEnabled}
use Rattle.lvish_calculus.specs.Laws.{Reaches, FreezesBefore, FreezesAllBy}
use Rattle.lvish_calculus.proofs.Names.{same_name-true}
use Rattle.lvish_calculus.proofs.Steps.{Makes, puts, gets, forks, adds, freezes, pauses, ends, hands}
use Rattle.lvish_calculus.proofs.Sound.{IsSound, first, second}
use Rattle.lvish_calculus.proofs.Keeps.{tasks_after, handlers_after, sound_after, sound_start}
use Rattle.lvish_calculus.proofs.Ends.{Way, goes}
use Rattle.lvish_calculus.proofs.Runs.{walked, step_is}

-- the local states that tasks can have, and the procedures that handlers can begin
pub record IsKept {S E R A L : Type 0} (M : Machine S E R A L) (In : Name E → L → Type 0) (Begins : ℕ → Type 0) : Type 0 where
  pub start : In main M.start
  pub goes_on : (t : Name E) (l : L) (r : Reply S A) → In t l → In t (M.resume (M.at l) r)
  pub forks : (t : Name E) (n : ℕ) (l m : L) → In t l → M.request l ≡ Fork m → In (forked t n) m
  pub adds : (t : Name E) (l : L) (pool procedure : ℕ) → In t l → M.request l ≡ Add pool procedure → Begins procedure
  pub hands : (t : Name E) (n procedure : ℕ) (e : E) → Begins procedure → In (handed t n e) (M.start_handler procedure e)

live_local : {L : Type 0} (k m : L) (f a p f' a' p' : ℕ) → ◌≡◌ {A = Task L} (Live k f a p) (Live m f' a' p') → k ≡ m
live_local k m f a p f' a' p' e = cc

ended_live : {L : Type 0} (l : L) (f a p : ℕ) → ◌≡◌ {A = Task L} Ended (Live l f a p) → ⊥
ended_live l f a p e = cc

module _ {S E R A L : Type 0} (M : Machine S E R A L) (ok : IsLawful M) (In : Name E → L → Type 0) (Begins : ℕ → Type 0) (keeps : IsKept M In Begins) where
  pub record Holds (c : State S E L) : Type 0 where
    pub tasks : (t : Name E) (l : L) (f a p : ℕ) → c.tasks t ≡ Live l f a p → In t l
    pub handlers : (h : Handler E) (post : Post) → c.handlers h ≡ Some post → Begins post.procedure

  module _ (c : State S E L) (h : Holds c) where
    went_on : (t u : Name E) (k l : L) (f a p f' a' p' : ℕ) (r : Reply S A) (x : Task L) → In t k → ◌≡◌ {A = Option (Name E × Task L)} (Some (t, Live (M.resume (M.at k) r) f a p)) (Some (u, x)) → x ≡ Live l f' a' p' → In u l
    went_on t u k l f a p f' a' p' r x i e is =
        subst (λ m. In u m) (live_local _ _ _ _ _ _ _ _ (second e ∙ is)) (subst (λ n. In n (M.resume (M.at k) r)) (first e) (keeps.goes_on t k r i))

    own_holds : (l : Label E) (ch : Change S E L) → Makes M c l ch → (u : Name E) (x : Task L) (m : L) (f' a' p' : ℕ) → ch.own ≡ Some (u, x) → x ≡ Live m f' a' p' → In u m
    own_holds l ch (puts t o f a p v d s is q j same) u x m f' a' p' e z = went_on t u o m f a (suc p) f' a' p' Done x (h.tasks t o f a p is) e z
    own_holds l ch (gets t o f a p v r y is q j) u x m f' a' p' e z = went_on t u o m f a p f' a' p' (Answer y) x (h.tasks t o f a p is) e z
    own_holds l ch (forks t o f a p k is q b) u x m f' a' p' e z = went_on t u o m (suc f) a p f' a' p' Done x (h.tasks t o f a p is) e z
    own_holds l ch (adds t o f a p pool procedure v is q b w y) u x m f' a' p' e z = went_on t u o m f (suc a) p f' a' p' Done x (h.tasks t o f a p is) e z
    own_holds l ch (freezes t o f a p v pools is q) u x m f' a' p' e z = went_on t u o m f a p f' a' p' (Content (c.content v)) x (h.tasks t o f a p is) e z
    own_holds l ch (pauses t o f a p is q) u x m f' a' p' e z = went_on t u o m f a p f' a' p' Done x (h.tasks t o f a p is) e z
    own_holds l ch (ends t o f a p is q) u x m f' a' p' e z = absurd (ended_live m f' a' p' (second e ∙ z))
    own_holds l ch (hands k e post o) u x m f' a' p' q z = absurd (cc q)

    begins_as : (t u : Name E) (k l : L) (f' a' p' : ℕ) (x : Task L) → In t k → ◌≡◌ {A = Option (Name E × Task L)} (Some (t, Live k 0 0 0)) (Some (u, x)) → x ≡ Live l f' a' p' → In u l
    begins_as t u k l f' a' p' x i e is = subst (λ m. In u m) (live_local _ _ _ _ _ _ _ _ (second e ∙ is)) (subst (λ n. In n k) (first e) i)

    made_holds : (l : Label E) (ch : Change S E L) → Makes M c l ch → (u : Name E) (x : Task L) (m : L) (f' a' p' : ℕ) → ch.made ≡ Some (u, x) → x ≡ Live m f' a' p' → In u m
    made_holds l ch (forks t o f a p k is q b) u x m f' a' p' e z = begins_as (forked t (suc f)) u k m f' a' p' x (keeps.forks t (suc f) o k (h.tasks t o f a p is) q) e z
    made_holds l ch (hands k y post o) u x m f' a' p' e z = begins_as (handed k.adder k.number y) u _ m f' a' p' x (keeps.hands k.adder k.number post.procedure y (h.handlers k post o)) e z
    made_holds l ch n u x m f' a' p' e z = absurd (cc e)

    added_holds : (l : Label E) (ch : Change S E L) → Makes M c l ch → (k : Handler E) (post : Post) → ch.added ≡ Some (k, post) → Begins post.procedure
    added_holds l ch (adds t o f a p pool procedure v is q b w y) k post e =
        subst Begins (ap (λ (x : Post). x.procedure) (second e)) (keeps.adds t o pool procedure (h.tasks t o f a p is) q)
    added_holds l ch n k post e = absurd (cc e)

    pub holds_after : (l : Label E) (ch : Change S E L) → Makes M c l ch → IsEnabled M c l → IsSound c → Holds (changed M ch c)
    holds_after l ch m en s = record {
      tasks = λ u o f a p is. elim (tasks_after M ok c l ch m en s u) [
        | inl w ↦ own_holds l ch m u w.0 o f a p w.1 (sym w.2 ∙ is)
        | inr (inl w) ↦ made_holds l ch m u w.0 o f a p w.1 (sym w.2 ∙ is)
        | inr (inr w) ↦ h.tasks u o f a p (sym w ∙ is)
      ];
      handlers = λ k post is. elim (handlers_after M ok c l ch m en s k) [
        | inl w ↦ let same : w.0 ≡ post = cc in subst (λ (x : Post). Begins x.procedure) same (added_holds l ch m k w.0 w.1)
        | inr w ↦ h.handlers k post (sym w ∙ is)
      ];
    }

  pub holds_first : Holds (start M)
  holds_first = record { tasks = first_task; handlers = λ h post is. absurd (cc is) }
    where
      by : (t : Name E) (l : L) (f a p : ℕ) (b : Bool) → same_name M.event_same t main ≡ b → (if b then Live M.start 0 0 0 else Absent) ≡ Live l f a p → In t l
      by t l f a p true e is = subst (λ m. In t m) (live_local _ _ _ _ _ _ _ _ is) (subst (λ n. In n M.start) (sym (same_name-true M.event_same ok.event_same_is t main e)) keeps.start)
      by t l f a p false e is = absurd (cc is)

      first_task : (t : Name E) (l : L) (f a p : ℕ) → (start M).tasks t ≡ Live l f a p → In t l
      first_task t l f a p is = by t l f a p _ refl is

  -- if only main can ask to freeze, it asks for each freeze of a run
  module _ (only : (t : Name E) (l : L) (v : ℕ) (pools : List ℕ) → In t l → M.request l ≡ Freeze v pools → t ≡ main) where
    way_by_main : (ls : List (Label E)) (c d : State S E L) → IsSound c → Holds c → Way M c ls d → FreezesAllBy M main (Running c) ls
    way_by_main [] c d s h w = tt
    way_by_main (l ∷ ls) c d s h (goes ch m en w) = (
      λ v fr. fr.label ∙ ap Act (only fr.task fr.local v fr.pools (h.tasks fr.task fr.local fr.forks fr.adds fr.puts fr.is) fr.asked),
      subst (λ o. FreezesAllBy M main o ls) (sym (step_is M ok c l ch m)) (way_by_main ls (changed M ch c) d (sound_after M ok c l ch m en s) (holds_after c h l ch m en s) w),
    )

    pub all_by_main : (ls : List (Label E)) (d : State S E L) → Reaches M ls d → FreezesAllBy M main (Running (start M)) ls
    all_by_main ls d run = way_by_main ls (start M) d (sound_start M ok) holds_first (walked M ok main ls (start M) d run).way

  -- what a run freezes, a task asks for
  pub record IsAsked (v : ℕ) : Type 0 where
    pub task : Name E
    pub local : L
    pub pools : List ℕ
    pub can : In task local
    pub asked : M.request local ≡ Freeze v pools

  way_asked : (ls : List (Label E)) (c d : State S E L) (v w : ℕ) → IsSound c → Holds c → Way M c ls d → FreezesBefore M (Running c) ls v w → IsAsked v
  way_asked [] c d v w s h z b = absurd b
  way_asked (l ∷ ls) c d v w s h (goes ch m en z) (inl b) =
      let fr = b.0 in
      record { task = fr.task; local = fr.local; pools = fr.pools; can = h.tasks fr.task fr.local fr.forks fr.adds fr.puts fr.is; asked = fr.asked }
  way_asked (l ∷ ls) c d v w s h (goes ch m en z) (inr b) =
      way_asked ls (changed M ch c) d v w (sound_after M ok c l ch m en s) (holds_after c h l ch m en s) z (subst (λ o. FreezesBefore M o ls v w) (step_is M ok c l ch m) b)

  pub freeze_asked : (ls : List (Label E)) (d : State S E L) (v w : ℕ) → Reaches M ls d → FreezesBefore M (Running (start M)) ls v w → IsAsked v
  freeze_asked ls d v w run b = way_asked ls (start M) d v w (sound_start M ok) holds_first (walked M ok main ls (start M) d run).way b
