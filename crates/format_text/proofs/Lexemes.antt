-- The test of lexemes holds of equal ones alone.
use Rattle.std.proofs.Common.{◌≡◌, Bool, true, nat_eq, List, refl, sym, ap, ◌∙◌}
use Rattle.std.specs.Cmp.Lexicographic.{pointwise}
use denote.Enum.Bare.{same_true}
use denote.Enum.Compared.{Each}
use Rattle.m2_tree.specs.declared.token.Symbol.{Symbol}
use Rattle.m2_tree.specs.declared.token.Lexeme.{Lexeme}
use Rattle.m2_tree.specs.declared.token.Lexeme.TheVariants as lexeme
use Rattle.m2_tree.specs.contracts.token.Symbol as symbol_enum
use Rattle.m2_tree.specs.contracts.token.Lexeme as lexeme_enum
use Rattle.m2_tree.specs.contracts.token.SymbolPartialEq.TheImpl as SymbolEq
use Rattle.m2_tree.specs.contracts.token.LexemePartialEq.TheImpl as LexemeEq
use Rattle.m2_tree.specs.Sound.{Sound, Fine, variants, number, all, one}
use Rattle.m2_tree.specs.SoundLeaves.{eq_name, eq_quoted, name, quoted}

abbrev eq_symbol : Symbol → Symbol → Bool
eq_symbol = (SymbolEq.ghosts).eq

symbol : (a : Symbol) → Sound eq_symbol a
symbol a b h = same_true symbol_enum.the_type tt a b h

abbrev each : Each Bool lexeme_enum.the_parts
each = (
  λ a b. eq_name a.0 b.0,
  (
    λ a b. nat_eq a.0 b.0,
    (
      λ a b. nat_eq a.0 b.0,
      (λ a b. eq_quoted a.0 b.0, (λ a b. eq_symbol a.0 b.0, (λ a b. true, tt))),
    ),
  ),
)

fine : (a : Lexeme) → Fine lexeme_enum.the_parts each (lexeme_enum.as_values a)
fine (lexeme.Name n) = one eq_name n (name n)
fine (lexeme.Number n) = one nat_eq n (number n)
fine (lexeme.Char n) = one nat_eq n (number n)
fine (lexeme.Text q) = one eq_quoted q (quoted q)
fine (lexeme.Symbol s) = one eq_symbol s (symbol s)
fine lexeme.End = λ v h. refl

abbrev eq_lexeme : Lexeme → Lexeme → Bool
eq_lexeme = (LexemeEq.ghosts).eq

sound : (a : Lexeme) → Sound eq_lexeme a
sound a b h =
    let s : lexeme_enum.as_values a ≡ lexeme_enum.as_values b = variants lexeme_enum.the_parts each
    (lexeme_enum.as_values a) (lexeme_enum.as_values b) (fine a) h in
    sym (lexeme_enum.the_eta a) ∙ (ap lexeme_enum.the_make s ∙ lexeme_enum.the_eta b)

-- the test of lists of them
pub lexemes_are_equal : (ls : List Lexeme) → Sound (pointwise eq_lexeme) ls
lexemes_are_equal = all eq_lexeme sound
