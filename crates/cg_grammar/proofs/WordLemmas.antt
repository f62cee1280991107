-- A word and its command.
use Rattle.std.proofs.Common.{◌≡◌, ℕ, Bool, true, false, List, Option, Some, None, refl, ap, ◌∙◌, bytes_eq, codes, cond, inl, inr, ◌⊎◌}
use Rattle.std.proofs.lemmas.Slice.Eq.{bytes_eq-Decides}
use Rattle.cg_model.specs.declared.group.GroupKind.TheVariants.{Sequence, Phase, After, Before as BeforeGroup}
use Rattle.cg_grammar.specs.declared.command.Command.{Command}
use Rattle.cg_grammar.specs.declared.command.Command.TheVariants.{Date, Boundary, CDate, RDate, Group, Plot, Options, Curve}
use Rattle.cg_grammar.specs.Words.{word_of, command_of}

-- the word of a command is its own
pub command-again : (c : Command) → command_of (word_of c) ≡ Some c
unfolding command_of
command-again Date = refl
command-again Boundary = refl
command-again CDate = refl
command-again RDate = refl
command-again (Group Sequence) = refl
command-again (Group Phase) = refl
command-again (Group After) = refl
command-again (Group BeforeGroup) = refl
command-again Plot = refl
command-again Options = refl
command-again Curve = refl

-- the first of two tests that holds
chain : (q : Bool) (x c : Command) (rest : Option Command) → cond q (Some x) rest ≡ Some c → ((q ≡ true) × (x ≡ c)) ⊎ (rest ≡ Some c)
chain true x c rest h = inl (refl, ap (λ m. elim m [ Some y ↦ y | None ↦ x ]) h)
chain false x c rest h = inr h

-- a word that a test found
word_is : (w v : List ℕ) (x c : Command) → v ≡ word_of x → (bytes_eq w v ≡ true) × (x ≡ c) → w ≡ word_of c
word_is w v x c e h = (bytes_eq-Decides w v).0 h.0 ∙ e ∙ ap word_of h.1

-- a word has no command but its own
pub command-is : (w : List ℕ) (c : Command) → command_of w ≡ Some c → w ≡ word_of c
unfolding command_of
command-is w c h =
    elim (chain (bytes_eq w (codes "Date")) Date c _ h) [
      | inl p ↦ word_is w (codes "Date") Date c refl p
      | inr h1 ↦
          elim (chain (bytes_eq w (codes "Boundary")) Boundary c _ h1) [
            | inl p ↦ word_is w (codes "Boundary") Boundary c refl p
            | inr h2 ↦
                elim (chain (bytes_eq w (codes "C_Date")) CDate c _ h2) [
                  | inl p ↦ word_is w (codes "C_Date") CDate c refl p
                  | inr h3 ↦
                      elim (chain (bytes_eq w (codes "R_Date")) RDate c _ h3) [
                        | inl p ↦ word_is w (codes "R_Date") RDate c refl p
                        | inr h4 ↦
                            elim (chain (bytes_eq w (codes "Sequence")) (Group Sequence) c _ h4) [
                              | inl p ↦ word_is w (codes "Sequence") (Group Sequence) c refl p
                              | inr h5 ↦
                                  elim (chain (bytes_eq w (codes "Phase")) (Group Phase) c _ h5) [
                                    | inl p ↦ word_is w (codes "Phase") (Group Phase) c refl p
                                    | inr h6 ↦
                                        elim (chain (bytes_eq w (codes "After")) (Group After) c _ h6) [
                                          | inl p ↦ word_is w (codes "After") (Group After) c refl p
                                          | inr h7 ↦
                                              elim (chain (bytes_eq w (codes "Before")) (Group BeforeGroup) c _ h7) [
                                                | inl p ↦ word_is w (codes "Before") (Group BeforeGroup) c refl p
                                                | inr h8 ↦
                                                    elim (chain (bytes_eq w (codes "Plot")) Plot c _ h8) [
                                                      | inl p ↦ word_is w (codes "Plot") Plot c refl p
                                                      | inr h9 ↦
                                                          elim (chain (bytes_eq w (codes "Options")) Options c _ h9) [
                                                            | inl p ↦ word_is w (codes "Options") Options c refl p
                                                            | inr h10 ↦
                                                                elim (chain (bytes_eq w (codes "Curve")) Curve c _ h10) [
                                                                  | inl p ↦ word_is w (codes "Curve") Curve c refl p
                                                                  | inr h11 ↦
                                                                      absurd cc
                                                                ]
                                                          ]
                                                    ]
                                              ]
                                        ]
                                  ]
                            ]
                      ]
                ]
          ]
    ]
