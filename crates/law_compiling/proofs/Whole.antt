-- Whoever compiles bodies alone and links them gets what the build gives.
use Rattle.std.proofs.Common.{◌≡◌, ℕ, zero, suc, ◌<◌, List, [], ◌∷◌, length, Option, Some, None, refl, sym, ap, ap₂, subst, ◌∙◌, inl, inr}
use Rattle.std.specs.Prelude.{slice_get}
use Rattle.std.specs.List.{All, Contains, flat_map}
use Rattle.std.specs.String.{string_bytes}
use Rattle.std.proofs.lemmas.Option.{none-some, same_Some}
use Rattle.m2_tree.specs.declared.decl.Module.{Module}
use Rattle.def_scheme.specs.Modules.{Part as Sizes}
use Rattle.m2_emit.specs.declared.emitted.ModuleBytes.{ModuleBytes}
use Rattle.m2_emit.specs.Emitted.{link_part}
use Rattle.build_jobs.specs.declared.file.SourceFile.{SourceFile}
use Rattle.build_jobs.specs.declared.outcome.Compiled.{Compiled}
use Rattle.build_jobs.specs.declared.outcome.Compiled.TheVariants.{Defined, Built, Refused, Blocked}
use Rattle.build_results.specs.Results.{module_in}
use Rattle.law_graph.proofs.Lists.{Among, none_among, later_among, among_cases, among_append_cases, all_among, some_at, among-map, map_among}
use Rattle.law_graph.proofs.Given.{given_trees}
use Rattle.law_graph.proofs.Started.{are_started}
use Rattle.law_separation.specs.Alike.{Jobs, comes_of}
use Rattle.link_parts.specs.declared.part.Part.{Part}
use Rattle.link_parts.specs.Stands.{stands_for, trees_of}
use Rattle.link_parts.specs.Linked.{sizes_in, started, IsLinked}
use Rattle.law_linking.specs.Parts.{IsPart, AreParts, built_parts}
use Rattle.law_linking.proofs.Standing.{stand_there}
use Rattle.law_linking.proofs.Alone.{stand_name}
use Rattle.law_linking.proofs.Linking.{linking_builds, parts_start}
use Rattle.m2c.specs.Build.{named_bytes, IsProgram}
use Rattle.law_compiling.specs.Whole.{Written, IsWrittenOf, parts_of, modules_of, IsOnlyOf, CompilingAndLinkingIsBuilding}
use Rattle.law_compiling.proofs.Places.{one_place, built_of}
use Rattle.law_compiling.proofs.Sources.{contained, among_contains, picked}
use Rattle.law_compiling.proofs.Parts.{IsPartWith, is_part_with}
use Rattle.law_compiling.proofs.Building.{its_jobs, those, link_is, built_is}

-- ---- lists

pub among_each : {X Y : Type 0} (f : X → List Y) (xs : List X) (y : Y) → Among (flat_map f xs) y → (x : X) × Among xs x
    × Among (f x) y
among_each f [] y a = absurd (none_among y a)
among_each f (x ∷ xs) y a = elim (among_append_cases (f x) (flat_map f xs) y a) [
  | inl l ↦ (x, (0, refl), l)
  | inr r ↦ (let w = among_each f xs y r in (w.0, later_among x xs w.0 w.1, w.2))
]

pub one_of : {X : Type 0} (y x : X) → Among (y ∷ []) x → y ≡ x
one_of y x a = elim (among_cases y [] x a) [ inl s ↦ s | inr none ↦ absurd (none_among x none) ]

-- ---- a module that starts

in_option : (o : Option Compiled) (b : ModuleBytes) → Among (module_in o) b → o ≡ Some (Built b)
in_option (Some (Built c)) b a = ap (λ (x : ModuleBytes). Some (Built x)) (one_of c b a)
in_option (Some (Defined t)) b a = absurd (none_among b a)
in_option (Some (Refused f)) b a = absurd (none_among b a)
in_option (Some Blocked) b a = absurd (none_among b a)
in_option None b a = absurd (none_among b a)

in_stands : (o : Option (Part × Module)) (s : Sizes) → Among (sizes_in o) s → (t : Part × Module) × (o ≡ Some t)
    × (t.1.name.name ≡ s.name)
in_stands None s a = absurd (none_among s a)
in_stands (Some t) s a = (t, refl, ap (λ (x : Sizes). x.name) (one_of _ s a))

-- A module of these sizes that starts stands for a part of its name.
started_part : (ps : List Part) (starts : List ℕ) (s : Sizes) → Among (started ps starts) s → (p : Part)
    × Among ps p × (string_bytes p.name ≡ s.name)
started_part ps starts s a =
    let e = among_each (λ (n : ℕ). sizes_in (slice_get (stands_for ps) n)) starts s a in
    let t = in_stands (slice_get (stands_for ps) e.0) s e.2 in
    let at : slice_get (given_trees (trees_of (stands_for ps))) e.0 ≡ Some t.0.1 = trees_at (stands_for ps) e.0 t.0 t.1
    in
    let w = stand_there ps e.0 t.0.1 at in
    (w.p, w.among, sym (stand_name w.p t.0.1 w.is) ∙ t.2)
  where
    trees_at : (xs : List (Part × Module)) (k : ℕ) (t : Part × Module) → slice_get xs k ≡ Some t
        → slice_get (given_trees (trees_of xs)) k ≡ Some t.1
    trees_at [] k t e = absurd (none-some t e)
    trees_at (x ∷ xs) zero t e = ap (λ (y : Part × Module). Some y.1) (same_Some x t e)
    trees_at (x ∷ xs) (suc k) t e = trees_at xs k t e

-- ---- a program, and what was written of its bodies

module _ (program : List SourceFile) (pages : ℕ) (link : List ℕ) (built : List (List ℕ × List ℕ))
    (p : IsProgram program pages link built) (ws : List Written) (all : All (IsWrittenOf program) ws) where
  abbrev pub jobs : Jobs p.trees
  jobs = its_jobs program pages link built p

  abbrev starting : List ModuleBytes
  starting = those program pages link built p

  pub written_with : (w : Written) → Among ws w → IsPartWith p.trees jobs w
  written_with w a = is_part_with program p.trees p.graph.are_trees jobs w (picked (IsWrittenOf program) ws all w a)

  pub are_parts : AreParts p.trees jobs (parts_of ws)
  are_parts = all_among (IsPart p.trees jobs) (parts_of ws) (λ q a.
      let r = map_among (λ (w : Written). w.part) ws q a in
      subst (IsPart p.trees jobs) r.2 (written_with r.0 r.1).part)

  -- What starts is a body's.
  record Begins (b : ModuleBytes) : Type 0 where
    place : ℕ
    m : Module
    there : slice_get (given_trees p.trees) place ≡ Some m
    comes : comes_of p.trees jobs place ≡ Some (Built b)

  begins : (b : ModuleBytes) → Among starting b → Begins b
  begins b a =
      let e = among_each (λ (s : ℕ). module_in (comes_of p.trees jobs s)) p.starts b a in
      let s = are_started p.trees p.numbers p.all_jobs p.starts p.graph.is_graph in
      let m = some_at (given_trees p.trees) e.0
      (picked (λ k. k < length (given_trees p.trees)) p.starts s.within e.0 e.1)
      in record {
        place = e.0;
        m = m.0;
        there = m.1;
        comes = in_option (comes_of p.trees jobs e.0) b e.2;
      }

  -- What was written under its name is it.
  same_built : (w : Written) → Among ws w → (b : ModuleBytes) → Among starting b → b.name ≡ string_bytes w.part.name
      → w.code ≡ b.bytes
  same_built w a b s name =
      let q = written_with w a in
      let x = begins b s in
      let its = built_of p.trees jobs x.place x.m b x.there x.comes in
      let place : x.place ≡ q.part.file =
      one_place p.trees jobs x.place q.part.file x.m q.part.body x.there q.part.there (its.kind ∙ sym q.part.kind)
      (sym its.name ∙ name ∙ q.part.name) in
      let same : Some (Built q.part.built) ≡ Some (Built b) =
      sym q.part.is_built ∙ ap (comes_of p.trees jobs) (sym place) ∙ x.comes in
      q.code ∙ sym (ap bytes_in (sym same))
    where
      bytes_in : Option Compiled → List ℕ
      bytes_in (Some (Built c)) = c.bytes
      bytes_in (Some (Defined t)) = []
      bytes_in (Some (Refused f)) = []
      bytes_in (Some Blocked) = []
      bytes_in None = []

  module _ (bytes : List ℕ) (l : IsLinked (parts_of ws) pages bytes) where
    same_link : bytes ≡ link
    same_link = linking_builds p.trees jobs (parts_of ws) are_parts pages bytes l
        ∙ sym (link_is program pages link built p)

    -- each module that starts was written
    was_written : (b : ModuleBytes) → Among starting b → Among (modules_of ws) (named_bytes b)
    was_written b s =
        let sizes : Among (built_parts p.trees jobs) (link_part b) = among-map link_part starting b s in
        let there = subst (λ (xs : List Sizes). Among xs (link_part b))
        (sym (parts_start p.trees jobs (parts_of ws) are_parts l.numbers l.needs l.starts l.is_graph)) sizes in
        let q = started_part (parts_of ws) l.starts (link_part b) there in
        let r = map_among (λ (w : Written). w.part) ws q.0 q.1 in
        let name : string_bytes r.0.part.name ≡ b.name = ap (λ (x : Part). string_bytes x.name) r.2 ∙ q.2 in
        subst (Among (modules_of ws))
        (ap₂ (λ (n c : List ℕ). (n, c)) name (same_built r.0 r.1 b s (sym name)))
        (among-map (λ (w : Written). (string_bytes w.part.name, w.code)) ws r.0 r.1)

    -- and nothing else was written under its name
    none_else : (b : ModuleBytes) → Among starting b → (n : List ℕ × List ℕ) → Contains (modules_of ws) n
        → n.0 ≡ b.name → n ≡ named_bytes b
    none_else b s n c name =
        let r = map_among (λ (w : Written). (string_bytes w.part.name, w.code)) ws n (contained (modules_of ws) n c) in
        let its : string_bytes r.0.part.name ≡ b.name = ap (λ (m : List ℕ × List ℕ). m.0) r.2 ∙ name in
        sym r.2 ∙ ap₂ (λ (x c : List ℕ). (x, c)) its (same_built r.0 r.1 b s (sym its))

    all_written : All (IsOnlyOf (modules_of ws)) built
    all_written = all_among (IsOnlyOf (modules_of ws)) built (λ x a.
        let b = map_among named_bytes starting x
        (subst (λ (xs : List (List ℕ × List ℕ)). Among xs x) (built_is program pages link built p) a) in
        subst (IsOnlyOf (modules_of ws)) b.2
        (among_contains (modules_of ws) (named_bytes b.0) (was_written b.0 b.1), none_else b.0 b.1))

pub compiling_and_linking : CompilingAndLinkingIsBuilding
compiling_and_linking program pages link built p ws all bytes l =
    (same_link program pages link built p ws all bytes l, all_written program pages link built p ws all bytes l)
