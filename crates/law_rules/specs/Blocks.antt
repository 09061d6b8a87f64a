-- What is answered of a block with all that stands in it.
use Rattle.std.specs.Prelude.{◌≡◌, ℕ, ◌<◌, ◌==◌, ◌&&◌, true, false, List, [], length, Option, Result, Ok}
use Rattle.m2_tree.specs.declared.name.Ident.{Ident}
use Rattle.m2_tree.specs.declared.decl.Block.{Block}
use Rattle.typed_tree.specs.declared.meaning.LocalVariable.{LocalVariable}
use Rattle.typed_tree.specs.declared.meaning.Meaning.TheVariants as meaning
use Rattle.typed_tree.specs.declared.types.TypeNo.{TypeNo}
use Rattle.typed_tree.specs.declared.typed_module.Which.{Which}
use Rattle.typed_tree.specs.Names.{find_name}
use Rattle.check_scope.specs.declared.scope.Scope.{Scope}
use Rattle.check_scope.specs.Elaborated.{Gathers, beside}
use Rattle.check_scope.specs.Scopes.{looked_up}
use Rattle.check_stmt_parts.specs.Control.{is_own}
use Rattle.check_body.specs.declared.procedure.Walk.{Walk}
use Rattle.check_body.specs.Inside.{reported_in}
use Rattle.check_body.specs.Bodies.{Checked, checks_block}
use Rattle.check_body.specs.Checks.{elaborate_body}
use Rattle.def_typing.specs.Things.{Standing}
use Rattle.def_typing.specs.Bodies.{Place, Reads, BrokenBlock}
use Rattle.law_typing.specs.Judging.{Judges, Reports}
use Rattle.law_typing.specs.Exact.{Knows, KnowsOwn, KnowsResult, TakenAs, RepeatsResult, is_nested}

-- what is known where a block begins
pub record KnowsPlace (g : Gathers) (j : Judges g) (exports : ℕ → Ident → Standing) (p : Place)
    (s : Scope g.Reported) (returns : Option (Result TypeNo g.Reported)) : Type 0 where
  pub names : Knows g j p.names exports s
  pub no_withs : s.withs ≡ []
  pub own : KnowsOwn g j p.own s
  pub takes : (n : List ℕ) → TakenAs g j (p.taken n) (p.awaited n) (find_name n s.own)
  pub gives : KnowsResult g j p.gives returns
  pub nested : p.nested ≡ is_nested s
  pub level : s.level < length s.outer
  -- Local variables that are known there belong to procedures around, or are formals.
  pub locals : (name : Ident) (v : LocalVariable) → looked_up g s name ≡ Ok (meaning.Local v)
      → (is_nested s ≡ true) × (v.level < length s.outer)
      × ((is_own v.kind && (v.level == s.level)) ≡ false)

-- what is reported of a block: of its declarations and of its procedures, and of its statements
abbrev pub reported_of : (g : Gathers) → Checked g.Reported → Result (Unit {0}) g.Reported
reported_of g c = beside g c.0.so_far (reported_in c.1)

-- what is known of a block that is checked from this walk on
pub record IsBlockWhole (g : Gathers) (j : Judges g) (exports : ℕ → Ident → Standing) (p : Place)
    (returns : Option (Result TypeNo g.Reported)) (b : Block) (w : Walk g.Reported)
    (c : Checked g.Reported) : Type 0 where
  -- how the rules read it, up to the types that are known behind it
  pub read : Reads exports p w.scope.types b c.0.scope.types
  -- Exactly the broken rules are reported.
  pub reported : Reports g j (RepeatsResult g j p.names w.scope returns) (BrokenBlock exports read)
      (reported_of g c)

-- Blocks are answered exactly, with all procedures inside.
abbrev pub BlocksAreWhole : (g : Gathers) → Judges g → Type 0
BlocksAreWhole g j =
    (exports : ℕ → Ident → Standing) (p : Place) (w : Walk g.Reported)
    (returns : Option (Result TypeNo g.Reported))
    → KnowsPlace g j exports p w.scope returns → w.so_far ≡ Ok tt
    → (ends : List ℕ) (around : Option Which) (b : Block)
    → IsBlockWhole g j exports p returns b w
    (checks_block g (elaborate_body g) ends b around returns w)
