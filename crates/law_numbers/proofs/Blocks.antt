-- Behind the declarations of a block all its names have their numbers.
use Rattle.std.proofs.Common.{◌≡◌, ℕ, List, [], length, Ok, inl, refl, arith}
use Rattle.std.specs.List.{fold}
use Rattle.m2_tree.specs.declared.decl.Decl.{Decl}
use Rattle.check_scope.specs.Elaborated.{Gathers}
use Rattle.check_scope.specs.declared.scope.Scope.{Scope}
use Rattle.check_block.specs.Naming.{marked_decl, all_marked}
use Rattle.check_block.specs.Declarations.{with_decl, declared_block}
use Rattle.def_typing.specs.Declarations.{declarations_of}
use Rattle.def_typed.specs.Numbers.{variables_in, headings_in}
use Rattle.law_folds.proofs.AgainSteps.{block_reported}
use Rattle.law_numbers.specs.Numbered.{AreNumbered, no_heading, BlocksAreNumbered}
use Rattle.law_numbers.proofs.Walking.{decls_marks}
use Rattle.law_numbers.proofs.Declaring as placing
use Rattle.law_numbers.proofs.Headings as heading

module _ (g : Gathers) (ends : List ℕ) (s : Scope g.Reported) (first : ℕ) (ds : List Decl)
    (fine : (declared_block g ends (s, Ok tt) first ds).1 ≡ Ok tt) where
  abbrev home : ℕ
  home = s.types.home

  abbrev base : ℕ
  base = length s.variables

  -- the scope in which all names are marked
  abbrev marked : Scope g.Reported
  marked = (all_marked marked_decl s ds).0

  before : (fold (with_decl g ends) (marked, Ok tt, first) ds).1 ≡ Ok tt
  before = block_reported g ends (s, Ok tt) first ds fine

  placed_marks : placing.IsPlaced g home s.level base [] marked
  placed_marks = decls_marks g (placing.IsPlaced g home s.level base []) (placing.free g home s.level base []) ds
      (s, [])
      (record {
        of_home = refl;
        of_level = refl;
        counted =
            record { counted = omega arith; numbered = λ i x e. absurd cc };
      })

  placed : placing.IsPlaced g home s.level base (variables_in (declarations_of ds))
      (declared_block g ends (s, Ok tt) first ds).0
  placed = placing.decls_placed g home s.level ends base [] ds (marked, Ok tt, first) placed_marks before

  headed_marks : heading.IsNumbered g home s.level ends s (length s.procedures) first [] (length s.procedures) first
      marked
  headed_marks = decls_marks g (heading.IsNumbered g home s.level ends s (length s.procedures) first []
      (length s.procedures) first) (heading.free g home s.level ends s (length s.procedures) first []
      (length s.procedures) first) ds (s, [])
      (record {
        headed = no_heading;
        next = refl;
        waits = λ x p e. e;
        kept = λ x p w. inl w;
        of_home = refl;
        of_level =
            refl;
        of_rest = (refl, refl, refl);
        of_variables = λ i t e. e;
      })

  pub headed : (m : ℕ) × heading.IsNumbered g home s.level ends s (length s.procedures) first (headings_in ds) m
      (fold (with_decl g ends) (marked, Ok tt, first) ds).2 (declared_block g ends (s, Ok tt) first ds).0
  headed = heading.decls_numbered g home s.level ends s (length s.procedures) first [] (length s.procedures) ds
      (marked, Ok tt, first) headed_marks before

  pub block_numbered : AreNumbered ends s first ds (declared_block g ends (s, Ok tt) first ds).0
  block_numbered = record {
    variables = placed.counted.numbered;
    counted = placed.counted.counted;
    kept = headed.1.of_variables;
    last = headed.0;
    end = (fold (with_decl g ends) (marked, Ok tt, first) ds).2;
    headings = headed.1.headed;
    procedures = headed.1.next;
  }

pub blocks_numbered : (g : Gathers) → BlocksAreNumbered g
blocks_numbered g ends s first ds fine = block_numbered g ends s first ds fine
