-- Blocks and modules.
use Rattle.std.proofs.Common.{◌≡◌, Bool, true, false, inl, inr, List, map, Option, Some, None, refl, ap, ◌∙◌}
use Rattle.std.specs.List.{list_all}
use Rattle.m2_tree.specs.declared.stmt.Stmt.{Stmt}
use Rattle.m2_tree.specs.declared.decl.Decl.{Decl, Decl-F, out-Decl, map-Decl, fold_out-Decl}
use Rattle.m2_tree.specs.declared.decl.Decl.TheOpen as layer
use Rattle.m2_tree.specs.declared.decl.Decl.TheVariants as decl
use Rattle.m2_tree.specs.declared.decl.Decl.TheVariants.{outs-Constants, outs-Types, outs-Variables, outs-Procedure}
use Rattle.m2_tree.specs.declared.decl.Block.{Block, Block-F, roll-Block, out-roll-Block, map-Block, fold_out-Block}
use Rattle.def_grammar.specs.Rule.{decl_rule, module_rule}
use Rattle.def_grammar.specs.Grammar.{El}
use Rattle.def_grammar.specs.Ebnf.{grammar}
use Rattle.def_grammar.specs.Trees.{decl_of, module_of, contents_with, heading_of, is_there}
use Rattle.law_well_formed.specs.FormedRanges.{itself, fits_constant, fits_type_decl, fits_variables, fits_def}
use Rattle.law_well_formed.proofs.Folds.{all_true}
use Rattle.law_well_formed.proofs.Spelled.{PartFits, MaybeFits}
use Rattle.law_programs.specs.TypingStmts.{fits_stmt}
use Rattle.law_programs.specs.TypingBodies.{fits_body, fits_inside, fits_inside_layer, fits_whole_layer, fits_whole_block}
use Rattle.law_programs.specs.FormedTrees.{fits_contents}
use Rattle.law_programs.proofs.Fits.{True, FitsEl, both_true, itself_true}

abbrev mapped : Decl-F Decl Block → Decl-F Bool Bool
mapped x = map-Decl Decl Block Bool Bool fits_inside fits_whole_block x

abbrev mapped_block : Block-F Decl Block → Block-F Bool Bool
mapped_block x = map-Block Decl Block Bool Bool fits_inside fits_whole_block x

made : (e : Decl) (x : Decl-F Decl Block) → out-Decl e ≡ x → fits_inside e ≡ fits_inside_layer (mapped x)
unfolding fits_inside fits_whole_block
made e x q = fold_out-Decl Bool Bool fits_inside_layer fits_whole_layer e
    ∙ ap (λ (y : Decl-F Decl Block). fits_inside_layer (mapped y)) q

block_made : (x : Block-F Decl Block) → fits_whole_block (roll-Block x) ≡ fits_whole_layer (mapped_block x)
unfolding fits_inside fits_whole_block
block_made x = fold_out-Block Bool Bool fits_inside_layer fits_whole_layer (roll-Block x)
    ∙ ap (λ (y : Block-F Decl Block). fits_whole_layer (mapped_block y)) (out-roll-Block x)

body_fits : (o : Option (List Stmt)) → MaybeFits (λ xs. True (list_all fits_stmt xs)) o → True (fits_body o)
body_fits None h = refl
body_fits (Some xs) h = h

pub block_fits : (ds : List Decl) (o : Option (List Stmt)) → True (list_all fits_inside ds)
    → MaybeFits (λ xs. True (list_all fits_stmt xs)) o
    → True (fits_whole_block (roll-Block (record { decls = ds; body = o })))
block_fits ds o h k = block_made (record { decls = ds; body = o })
    ∙ both_true (list_all itself (map fits_inside ds)) (fits_body o) (itself_true fits_inside ds h) (body_fits o k)

pub decl_fits : (x : El (grammar decl_rule).shape) → PartFits (grammar decl_rule).shape x
    → FitsEl (grammar decl_rule).shape x → True (fits_inside (decl_of x))
decl_fits (inl (inl cs)) b h = made (decl.Constants cs) (layer.Constants cs) (outs-Constants cs)
    ∙ all_true fits_constant cs b
decl_fits (inl (inr (inl ts))) b h = made (decl.Types ts) (layer.Types ts) (outs-Types ts)
    ∙ all_true fits_type_decl ts b
decl_fits (inl (inr (inr vs))) b h = made (decl.Variables vs) (layer.Variables vs) (outs-Variables vs)
    ∙ all_true fits_variables vs b
decl_fits (inr p) b h = made (decl.Procedure (heading_of p.0 p.1.0) p.1.1)
    (layer.Procedure (heading_of p.0 p.1.0) p.1.1) (outs-Procedure (heading_of p.0 p.1.0) p.1.1) ∙ h.1.1

held_fits : (b : Bool) (x : Block) → True (fits_whole_block x) → True (fits_contents (contents_with b x))
held_fits true x h = h
held_fits false x h = h

pub module_fits : (x : El (grammar module_rule).shape) → PartFits (grammar module_rule).shape x
    → FitsEl (grammar module_rule).shape x → True (fits_contents (module_of x).contents)
module_fits (inl p) b h = all_true fits_def p.1.1 b.1.1
module_fits (inr p) b h = held_fits (is_there p.0) p.1.1.1 h.1.1.1
