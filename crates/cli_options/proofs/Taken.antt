-- Each option of a command is found, and so no two of them are written alike.
use Rattle.std.proofs.Common.{◌≡◌, ℕ, true, false, List, Option, Some, None, refl, subst}
use Rattle.std.specs.Prelude.{All, IfSome}
use Rattle.std.specs.List.{AllByRecursion}
use Rattle.std.proofs.lemmas.Bool.Decides.{Decides-eqb}
use Rattle.std.proofs.lemmas.List.Elements.{All-contains, All-from_recursion}
use Rattle.cli_options.specs.declared.names.CommandName.{CommandName}
use Rattle.cli_options.specs.declared.names.CommandName.TheVariants as name
use Rattle.cli_options.specs.declared.forms.CommandOption.{CommandOption}
use Rattle.cli_options.specs.Options.{form_of, is_letter, letter_option, name_option, options_of}
use Rattle.cli_options.specs.Taken.{IsFound, TakesLetter, TakesName}

-- Each option is found, command by command.
found_each : (command : CommandName) → AllByRecursion (IsFound command) (options_of command)
found_each name.Ls = ((refl, refl), ((refl, refl), ((refl, tt), ((refl, refl), ((refl, tt), ((refl, tt), ((refl, refl), tt)))))))
found_each name.Show = ((refl, refl), ((refl, tt), ((refl, tt), ((refl, refl), ((refl, refl), ((refl, tt), ((refl, refl), ((refl, tt), ((refl, tt), ((refl, refl), tt))))))))))
found_each name.History = ((refl, refl), ((refl, tt), ((refl, tt), ((refl, refl), tt))))
found_each name.Search = ((refl, refl), ((refl, tt), ((refl, tt), ((refl, refl), tt))))
found_each name.Add = ((refl, refl), ((refl, tt), ((refl, tt), ((refl, refl), ((refl, refl), ((refl, refl), ((refl, refl), ((refl, refl), ((refl, refl), ((refl, refl), ((refl, refl), ((refl, refl), ((refl, tt), ((refl, tt), ((refl, refl), tt)))))))))))))))
found_each name.Edit = ((refl, refl), ((refl, refl), ((refl, tt), ((refl, tt), ((refl, refl), ((refl, refl), ((refl, refl), ((refl, refl), ((refl, refl), ((refl, refl), ((refl, refl), ((refl, refl), ((refl, tt), ((refl, tt), ((refl, tt), ((refl, tt), ((refl, tt), ((refl, tt), ((refl, tt), ((refl, tt), ((refl, refl), ((refl, tt), ((refl, tt), ((refl, refl), tt))))))))))))))))))))))))
found_each name.Move = ((refl, refl), ((refl, tt), ((refl, tt), ((refl, refl), tt))))
found_each name.Remove = ((refl, refl), ((refl, tt), ((refl, tt), ((refl, refl), tt))))
found_each name.MakeGroup = ((refl, refl), ((refl, tt), ((refl, tt), ((refl, refl), tt))))
found_each name.RemoveGroup = ((refl, refl), ((refl, tt), ((refl, tt), ((refl, refl), tt))))
found_each name.Merge = ((refl, refl), ((refl, refl), ((refl, tt), ((refl, tt), ((refl, tt), ((refl, refl), ((refl, tt), ((refl, tt), ((refl, refl), tt)))))))))
found_each name.Import = ((refl, refl), ((refl, tt), ((refl, tt), ((refl, refl), ((refl, tt), tt)))))
found_each name.Create = ((refl, refl), ((refl, tt), ((refl, tt), ((refl, tt), ((refl, tt), ((refl, tt), ((refl, tt), ((refl, tt), ((refl, refl), ((refl, tt), tt))))))))))
found_each name.Export = ((refl, refl), ((refl, refl), ((refl, tt), ((refl, tt), ((refl, refl), tt)))))
found_each name.EditFile = ((refl, refl), ((refl, tt), ((refl, tt), ((refl, tt), ((refl, tt), ((refl, tt), ((refl, tt), ((refl, tt), ((refl, tt), ((refl, tt), ((refl, refl), ((refl, tt), ((refl, refl), tt)))))))))))))
found_each name.Info = ((refl, refl), ((refl, tt), ((refl, tt), ((refl, refl), tt))))
found_each name.ExportAttachment = ((refl, tt), ((refl, refl), ((refl, tt), ((refl, tt), ((refl, refl), tt)))))
found_each name.ImportAttachment = ((refl, refl), ((refl, refl), ((refl, tt), ((refl, tt), ((refl, refl), tt)))))
found_each name.RemoveAttachment = ((refl, refl), ((refl, tt), ((refl, tt), ((refl, refl), tt))))
found_each name.Generate = ((refl, refl), ((refl, refl), ((refl, refl), ((refl, refl), ((refl, refl), ((refl, refl), tt))))))
found_each name.SelfTest = tt
found_each name.Open = ((refl, refl), ((refl, tt), ((refl, tt), ((refl, refl), tt))))

-- Each option is found.
pub found : (command : CommandName) → All (IsFound command) (options_of command)
found command = All-from_recursion (IsFound command) (options_of command) (found_each command)

-- The option of a letter is the one that is found by it.
by_letter : (command : CommandName) (letter : ℕ) (option : CommandOption) → TakesLetter command letter option
    → letter_option command letter ≡ Some option
by_letter command letter option t = at (form_of option).letter t.1 (All-contains (IsFound command) (options_of command) option (found command) t.0).1
  where
    at : (own : Option ℕ) → is_letter own letter ≡ true → IfSome own (λ l. letter_option command l ≡ Some option)
        → letter_option command letter ≡ Some option
    at None e f = absurd (let no : false ≡ true → ⊥ = λ p. cc p in no e)
    at (Some own) e f = subst (λ l. letter_option command l ≡ Some option) ((Decides-eqb own letter).0 e) f

-- The same of a long name.
by_name : (command : CommandName) (name : List ℕ) (option : CommandOption) → TakesName command name option
    → name_option command name ≡ Some option
by_name command name option t =
    subst (λ n. name_option command n ≡ Some option) t.1
    (All-contains (IsFound command) (options_of command) option (found command) t.0).0

same : (f g : CommandOption) (o : Option CommandOption) → o ≡ Some f → o ≡ Some g → f ≡ g
same f g o p q = cc (p, q)

pub one_letter : (command : CommandName) (letter : ℕ) (f g : CommandOption) → TakesLetter command letter f → TakesLetter command letter g → f ≡ g
one_letter command letter f g a b = same f g (letter_option command letter) (by_letter command letter f a) (by_letter command letter g b)

pub one_name : (command : CommandName) (name : List ℕ) (f g : CommandOption) → TakesName command name f → TakesName command name g → f ≡ g
one_name command name f g a b = same f g (name_option command name) (by_name command name f a) (by_name command name g b)
