-- A body of a program that is built is built alone, unless imports break rules there.
use Rattle.std.proofs.Common.{◌≡◌, ℕ, suc, ◌<◌, false, List, [], ◌∷◌, ◌++◌, length, map, Option, Some, None, refl, sym, ap, subst, ◌∙◌, inl, inr}
use Rattle.std.specs.Prelude.{slice_get}
use Rattle.std.specs.List.{All, Contains}
use Rattle.std.specs.Ptr.{null_ptr}
use Rattle.std.proofs.lemmas.Option.{slice_get_within}
use Rattle.std.proofs.lemmas.List.Elements.{All-nil, All-cons}
use Rattle.m2_tree.specs.declared.refusal.Refusal.{Refusal}
use Rattle.m2_tree.specs.declared.decl.Module.{Module}
use Rattle.m2_graph.specs.Imports.{is_definition}
use Rattle.def_meaning.specs.Environment.{Modules}
use Rattle.m2_emit.specs.declared.emitted.ModuleBytes.{ModuleBytes}
use Rattle.m2_emit.specs.Emitted.{emitted}
use Rattle.build_jobs.specs.declared.file.SourceFile.{SourceFile}
use Rattle.build_jobs.specs.declared.outcome.Compiled.{Compiled}
use Rattle.build_jobs.specs.declared.outcome.Compiled.TheVariants as outcome
use Rattle.build_jobs.specs.declared.reading.Read.{Read}
use Rattle.build_jobs.specs.declared.reading.Read.TheVariants.{Parsed, Refused}
use Rattle.build_jobs.specs.Reading.{HasTree, AreRead}
use Rattle.build_jobs.proofs.Once.{one_read}
use Rattle.build_results.specs.Reported.{Reported}
use Rattle.build_results.specs.Texts.{modules, refused_of, AreTrees}
use Rattle.build_results.specs.Results.{module_in, modules_at, refused_by}
use Rattle.law_graph.specs.Started.{at_places}
use Rattle.law_graph.proofs.Lists.{none_among, map_among}
use Rattle.law_separation.specs.Alike.{Tree, Jobs, comes_of}
use Rattle.law_exchange_jobs.specs.Sharing.{AreShared}
use Rattle.law_exchange_jobs.proofs.Coming.{alone_comes}
use Rattle.law_alone.proofs.Moving.{moves_with_numbers}
use Rattle.compile_module.specs.declared.made.Made.{Made}
use Rattle.compile_module.specs.declared.made.Made.TheVariants as made
use Rattle.compile_module.specs.Alone.{IsMade, IsNoBody, AreUncompiled, ComesOf}
use Rattle.m2c.specs.Build.{IsProgram}
use Rattle.m2c.specs.Modules.{AreTyped}
use Rattle.m2c.proofs.Encodings.{as_many}
use Rattle.m2c.proofs.Programs.{built_all}
use Rattle.law_compiling.specs.Whole.{texts_of, AreWithin, HasBody, IsBuiltAlone, BodiesAreBuiltAlone}
use Rattle.law_compiling.proofs.Sources.{one_tree, tree_at, tree_there, text_of, contained, among_contains, picked}
use Rattle.law_compiling.proofs.Building.{its_jobs}
use Rattle.law_compiling.proofs.Refusing.{told_there}

-- ---- texts that have trees

none_unread : (files : List SourceFile) (reads : List Read) → AreRead files reads
    → ((k : ℕ) (f : SourceFile) → slice_get files k ≡ Some f → (m : Module) × HasTree f.bytes.items m)
    → refused_of files reads ≡ []
none_unread [] reads h all = refl
none_unread (f ∷ fs) [] h all = absurd h
none_unread (f ∷ fs) (Parsed tree ∷ rs) h all = none_unread fs rs h.1 (λ k g e. all (suc k) g e)
none_unread (f ∷ fs) (Refused pos number ∷ rs) h all =
    let t = all 0 f refl in
    absurd (one_read f.bytes.items (Parsed (record { ptr = null_ptr; value = t.0 })) (Refused pos number) t.1 h.0)

-- ---- a body of a program in which no rule is broken

one_built : (o : Option Compiled) (x : ModuleBytes) (xs : List ModuleBytes) → module_in o ++ [] ≡ x ∷ xs
    → (b : ModuleBytes) × (o ≡ Some (outcome.Built b))
one_built (Some (outcome.Built b)) x xs e = (b, refl)
one_built (Some (outcome.Defined t)) x xs e = absurd cc
one_built (Some (outcome.Refused f)) x xs e = absurd cc
one_built (Some outcome.Blocked) x xs e = absurd cc
one_built None x xs e = absurd cc

module _ (program : List SourceFile) (pages : ℕ) (link : List ℕ) (built : List (List ℕ × List ℕ))
    (p : IsProgram program pages link built) where
  abbrev jobs : Jobs p.trees
  jobs = its_jobs program pages link built p

  typed_built : (s : ℕ) (ts : Modules) → AreTyped (modules p.trees) p.numbers p.all_jobs (s ∷ []) ts
      → modules_at (comes_of p.trees jobs) (s ∷ []) ≡ map emitted ts
      → (b : ModuleBytes) × (comes_of p.trees jobs s ≡ Some (outcome.Built b))
  typed_built s [] typed e = absurd typed
  typed_built s (t ∷ ts) typed e = one_built (comes_of p.trees jobs s) (emitted t) (map emitted ts) e

  body_built : (s : ℕ) (m : Module) → slice_get (modules p.trees) s ≡ Some m → is_definition m ≡ false
      → (b : ModuleBytes) × (comes_of p.trees jobs s ≡ Some (outcome.Built b))
  body_built s m at kind =
      let here : at_places (modules p.trees) (s ∷ []) ≡ m ∷ [] = rw at refl in
      let w = built_all p.trees p.numbers p.all_jobs p.graph.each
      (as_many program p.trees p.numbers p.all_jobs p.starts p.graph p.none) p.none (s ∷ [])
      (All-cons (λ k. k < length (modules p.trees)) s [] (slice_get_within (modules p.trees) s m at)
      (All-nil (λ k. k < length (modules p.trees))))
      (subst (All (λ (x : Module). is_definition x ≡ false)) (sym here)
      (All-cons (λ (x : Module). is_definition x ≡ false) m [] kind
      (All-nil (λ (x : Module). is_definition x ≡ false))))
      in
      typed_built s w.program w.typed w.are

  module _ (body : SourceFile) (others : List SourceFile) (is : HasBody body)
      (within : AreWithin program (body ∷ others)) where
    abbrev files : List SourceFile
    files = body ∷ others

    -- each of the files has a tree, since its text is one of the program's
    has_tree : (k : ℕ) (f : SourceFile) → slice_get files k ≡ Some f → (m : Module) × HasTree f.bytes.items m
    has_tree k f e =
        let text : List ℕ = f.bytes.items in
        let c = contained (texts_of program) text
        (picked (Contains (texts_of program)) (texts_of files) within text (k, text_of files k f e)) in
        let g = map_among (λ (x : SourceFile). x.bytes.items) program text c in
        let t = tree_at program p.trees p.graph.are_trees g.1.0 g.0 g.1.1 in
        (t.m, subst (λ (x : List ℕ). HasTree x t.m) g.2 t.reads)

    not_defined : (alone : List Tree) → AreTrees files alone → (became : Option Compiled) → IsMade alone became
        → IsNoBody became → ⊥
    not_defined alone are became its none =
        let t = tree_at files alone are 0 body refl in
        let same : t.m ≡ is.0 = one_tree body.bytes.items t.m is.0 t.reads is.1 in
        let kind : is_definition t.m ≡ false = ap is_definition same ∙ is.2 in
        let there = tree_there program files p.trees alone p.graph.are_trees are within in
        let place = there 0 t.m t.at in
        let both : AreShared alone p.trees 0 place.0 t.m = record {
          here = t.at;
          there = place.1;
          definitions = λ k d e kind needs. there k d e;
        } in
        let comes = alone_comes moves_with_numbers alone p.trees its.numbers its.needs its.have jobs 0 place.0 t.m kind
        both in
        let b = body_built place.0 t.m place.1 kind in
        none b.0 (its.is ∙ sym comes ∙ b.1)

    not_uncompiled : (alone : List Tree) → AreTrees files alone → (refusals : List Refusal)
        → (u : AreUncompiled alone refusals) → ⊥
    not_uncompiled alone are refusals u = by (refused_by alone u.numbers u.needs) refl
      where
        nothing : (xs : List Reported) → xs ≡ [] → (r : Reported) → Contains xs r → ⊥
        nothing [] e r c = none_among r (contained [] r c)
        nothing (x ∷ xs) e r c = absurd cc

        by : (rs : List Reported) → refused_by alone u.numbers u.needs ≡ rs → ⊥
        by [] e = u.some e
        by (r ∷ rs) e =
            let t = told_there program files p.trees alone p.graph.are_trees are within jobs refusals u r
            (among_contains (refused_by alone u.numbers u.needs) r (0, ap (λ (xs : List Reported). slice_get xs 0) e))
            in
            nothing (refused_by p.trees p.numbers p.all_jobs) p.none _ t.1

    built_or : (it : Made) → ComesOf files it → IsBuiltAlone files it
    built_or (made.Built m is_program imports needed) c = tt
    built_or made.Defined (alone, are, (became, its, none)) = not_defined alone are became its none
    built_or (made.Refused refusals) (inl u) = absurd (u.some (none_unread files u.reads u.are_read has_tree))
    built_or (made.Refused refusals) (inr (alone, are, inl g)) = (alone, are, g)
    built_or (made.Refused refusals) (inr (alone, are, inr u)) = absurd (not_uncompiled alone are refusals.items u)

pub bodies_built : BodiesAreBuiltAlone
bodies_built program pages link built p body others is within it c =
    built_or program pages link built p body others is within it c
