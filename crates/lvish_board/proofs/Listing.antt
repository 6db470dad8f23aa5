-- Lists of work.
use Rattle.std.proofs.Common.{◌≡◌, List, [], ◌∷◌, ◌++◌, Option, Some, None, refl, ap, ◌∙◌, append_assoc}
use Rattle.lvish_names.specs.Names.{Handler}
use Rattle.lvish_board.specs.Vocabulary.{Work, ActOn, HandTo}
use Rattle.lvish_board.specs.Listed.{stretches, acts, handings, option_list}
use Rattle.lvish_board.specs.Stand.{TaskStand}

module _ {P B S L R A W E : Type 0} where
  -- one of the tasks more is listed
  pub acts_more : (list after : List (Work P B S L R A W E)) (p : TaskStand E L) (left : List (TaskStand E L)) → after ≡ list ++ ActOn p ∷ [] → after ++ acts left ≡ list ++ acts (p ∷ left)
  acts_more list after p left is = ap (λ ws. ws ++ acts left) is ∙ append_assoc list (ActOn p ∷ []) (acts left)

  -- one of the handlers more
  pub handings_more : (list after : List (Work P B S L R A W E)) (h : Handler E) (left : List (Handler E)) → after ≡ list ++ HandTo h ∷ [] → after ++ handings left ≡ list ++ handings (h ∷ left)
  handings_more list after h left is = ap (λ ws. ws ++ handings left) is ∙ append_assoc list (HandTo h ∷ []) (handings left)

  joined : (own made : Option (TaskStand E L)) (woken : List (TaskStand E L)) (hands : List (Handler E))
      → ◌≡◌ {A = List (Work P B S L R A W E)} (((([] ++ stretches (option_list own)) ++ stretches (option_list made)) ++ acts woken) ++ handings hands) (stretches (option_list own ++ option_list made) ++ acts woken ++ handings hands)
  joined None None woken hands = refl
  joined (Some p) None woken hands = refl
  joined None (Some q) woken hands = refl
  joined (Some p) (Some q) woken hands = refl

  -- the whole list, from what each part put on it
  pub list_is : (own made : Option (TaskStand E L)) (woken : List (TaskStand E L)) (hands : List (Handler E)) (none one two three four : List (Work P B S L R A W E))
      → none ≡ [] → one ≡ none ++ stretches (option_list own) → two ≡ one ++ stretches (option_list made) → three ≡ two ++ acts woken → four ≡ three ++ handings hands
      → four ≡ stretches (option_list own ++ option_list made) ++ acts woken ++ handings hands
  list_is own made woken hands none one two three four e0 e1 e2 e3 e4 =
      rw (e4, e3, e2, e1, e0) (joined own made woken hands)
