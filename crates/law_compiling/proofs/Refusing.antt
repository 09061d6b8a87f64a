-- What is refused where a body is compiled alone is refused in each program that has it.
use Rattle.std.proofs.Common.{◌≡◌, ℕ, zero, suc, ◌+◌, List, [], ◌∷◌, ◌++◌, Option, Some, None, refl, sym, ap, subst, ◌∙◌, inl, inr, arith}
use Rattle.std.specs.Prelude.{slice_get}
use Rattle.std.specs.List.{Contains}
use Rattle.std.specs.Option.{option_map}
use Rattle.std.proofs.lemmas.Option.{none-some, same_Some}
use Rattle.m2_tree.specs.declared.refusal.Refusal.{Refusal}
use Rattle.m2_tree.specs.declared.decl.Module.{Module}
use Rattle.m2_rule.specs.declared.breach.Breach.{Breach}
use Rattle.build_jobs.specs.declared.file.SourceFile.{SourceFile}
use Rattle.build_jobs.specs.declared.outcome.Compiled.{Compiled}
use Rattle.build_jobs.specs.declared.outcome.Compiled.TheVariants.{Defined, Built, Refused, Blocked}
use Rattle.build_results.specs.Reported.{Reported, reported_at}
use Rattle.build_results.specs.Texts.{modules, AreTrees}
use Rattle.build_results.specs.Results.{refusal_in, refused_from, refused_by, result_at}
use Rattle.law_graph.proofs.Lists.{Among, none_among, later_among, among_cases, among_append_cases}
use Rattle.law_separation.specs.Alike.{Tree, Jobs, comes_of}
use Rattle.compile_module.specs.Alone.{AreUncompiled}
use Rattle.law_exchange_jobs.specs.Sharing.{AreShared, moved_compiled}
use Rattle.law_exchange_jobs.proofs.Coming.{x_alone, alone_console, alone_where}
use Rattle.law_alone.proofs.Moving.{moves_with_numbers}
use Rattle.law_compiling.specs.Whole.{AreWithin, IsToldIn, RefusedAloneIsRefused}
use Rattle.law_compiling.proofs.Sources.{tree_there, contained, among_contains}

-- ---- places

add_none : (n : ℕ) → n + 0 ≡ n
add_none n = omega arith

none_add : (n : ℕ) → n ≡ 0 + n
none_add n = omega arith

add_next : (n k : ℕ) → n + suc k ≡ n + 1 + k
add_next n k = omega arith

-- ---- what is refused of files

-- the module in this place breaks this rule
record Breaks (result : ℕ → Option Compiled) (n : ℕ) (fs : List Tree) (r : Reported) : Type 0 where
  place : ℕ
  f : Tree
  at : slice_get fs place ≡ Some f
  broken : Breach
  refused : result (n + place) ≡ Some (Refused broken)
  told : r ≡ reported_at f.0 broken.pos.line broken.pos.col broken.number

broken_in : (file : List ℕ) (o : Option Compiled) (r : Reported) → Among (refusal_in file o) r → (b : Breach)
    × (o ≡ Some (Refused b)) × (r ≡ reported_at file b.pos.line b.pos.col b.number)
broken_in file (Some (Refused b)) r a = elim (among_cases _ [] r a)
    [ inl s ↦ (b, refl, sym s) | inr none ↦ absurd (none_among r none) ]
broken_in file (Some (Defined t)) r a = absurd (none_among r a)
broken_in file (Some (Built m)) r a = absurd (none_among r a)
broken_in file (Some Blocked) r a = absurd (none_among r a)
broken_in file None r a = absurd (none_among r a)

breaks : (result : ℕ → Option Compiled) (n : ℕ) (fs : List Tree) (r : Reported) → Among (refused_from result n fs) r
    → Breaks result n fs r
breaks result n [] r a = absurd (none_among r a)
breaks result n (f ∷ fs) r a = elim (among_append_cases (refusal_in f.0 (result n)) (refused_from result (n + 1) fs) r
    a) [
      | inl l ↦ (let b = broken_in f.0 (result n) r l in record {
        place = 0;
        f = f;
        at = refl;
        broken = b.0;
        refused = ap result (add_none n) ∙ b.1;
        told = b.2;
      })
      | inr m ↦ (let w = breaks result (n + 1) fs r m in record {
        place = suc w.place;
        f = w.f;
        at = w.at;
        broken = w.broken;
        refused = ap result (add_next n w.place) ∙ w.refused;
        told = w.told;
      })
    ]

pub front_among : {X : Type 0} (xs ys : List X) (x : X) → Among xs x → Among (xs ++ ys) x
front_among [] ys x a = absurd (none_among x a)
front_among (z ∷ xs) ys x a = elim (among_cases z xs x a) [
  | inl s ↦ (0, ap Some s)
  | inr more ↦ later_among z (xs ++ ys) x (front_among xs ys x more)
]

pub back_among : {X : Type 0} (xs ys : List X) (x : X) → Among ys x → Among (xs ++ ys) x
back_among [] ys x a = a
back_among (z ∷ xs) ys x a = later_among z (xs ++ ys) x (back_among xs ys x a)

-- A rule that is broken in a place is reported.
told_from : (result : ℕ → Option Compiled) (n : ℕ) (fs : List Tree) (k : ℕ) (m : Module) (b : Breach)
    → slice_get (modules fs) k ≡ Some m → result (n + k) ≡ Some (Refused b) → (file : List ℕ)
    × Among (refused_from result n fs) (reported_at file b.pos.line b.pos.col b.number)
told_from result n [] k m b at e = absurd (none-some m at)
told_from result n (f ∷ fs) zero m b at e = (
  f.0,
  front_among (refusal_in f.0 (result n)) (refused_from result (n + 1) fs)
      (reported_at f.0 b.pos.line b.pos.col b.number)
      (subst (λ (o : Option Compiled). Among (refusal_in f.0 o) (reported_at f.0 b.pos.line b.pos.col b.number))
      (sym (sym (ap result (add_none n)) ∙ e)) (0, refl)),
)
told_from result n (f ∷ fs) (suc k) m b at e =
    let w = told_from result (n + 1) fs k m b at (sym (ap result (add_next n k)) ∙ e) in (
      w.0,
      back_among (refusal_in f.0 (result n)) (refused_from result (n + 1) fs)
          (reported_at w.0 b.pos.line b.pos.col b.number) w.1,
    )

-- ---- alone, and in the program

module _ (program files : List SourceFile) (others alone : List Tree) (whole : AreTrees program others)
    (are : AreTrees files alone) (within : AreWithin program files) (jobs : Jobs others)
    (refusals : List Refusal) (u : AreUncompiled alone refusals) where
  abbrev result : ℕ → Option Compiled
  result = result_at alone u.numbers u.needs

  abbrev there : (k : ℕ) (m : Module) → slice_get (modules alone) k ≡ Some m → (j : ℕ)
      × (slice_get (modules others) j ≡ Some m)
  there = tree_there program files others alone whole are within

  -- the module of one of the files breaks the rule in the program
  breaks_there : (k : ℕ) (m : Module) (e : slice_get (modules alone) k ≡ Some m) (b : Breach)
      → result k ≡ Some (Refused b) → comes_of others jobs (there k m e).0 ≡ Some (Refused b)
  breaks_there k m e b refused =
      let place : ℕ = (there k m e).0 in
      let both : AreShared alone others k place m = record {
        here = e;
        there = (there k m e).1;
        definitions = λ i d at kind needs. there i d at;
      } in
      let y = x_alone alone others u.numbers u.needs u.have jobs k place m both in
      let console = alone_console alone others u.numbers u.needs u.have jobs k place m both in
      alone_where alone others u.numbers u.needs u.have jobs k place m both (λ m n needed. Unit {0})
      (λ m n needed t. moves_with_numbers y console m n needed) (λ j m s. tt)
      ∙ ap (λ (o : Option Compiled). option_map (moved_compiled y) o) refused

  module_at : (fs : List Tree) (k : ℕ) (f : Tree) → slice_get fs k ≡ Some f → slice_get (modules fs) k ≡ Some f.1
  module_at [] k f e = absurd (none-some f e)
  module_at (g ∷ fs) zero f e = ap (λ (x : Tree). Some x.1) (same_Some g f e)
  module_at (g ∷ fs) (suc k) f e = module_at fs k f e

  pub told_there : (r : Reported) → Contains (refused_by alone u.numbers u.needs) r
      → IsToldIn (refused_by others jobs.files jobs.needs) r
  told_there r c =
      let w = breaks result 0 alone r (contained (refused_by alone u.numbers u.needs) r c) in
      let at = module_at alone w.place w.f w.at in
      let p : ℕ = (there w.place w.f.1 at).0 in
      let t = told_from (comes_of others jobs) 0 others p w.f.1 w.broken
      (there w.place w.f.1 at).1 (sym (ap (comes_of others jobs) (none_add p))
      ∙ breaks_there w.place w.f.1 at w.broken (ap result (none_add w.place) ∙ w.refused)) in
      subst (IsToldIn (refused_by others jobs.files jobs.needs)) (sym w.told)
      (t.0, among_contains (refused_by others jobs.files jobs.needs) _ t.1)

pub refused_alone : RefusedAloneIsRefused
refused_alone program others numbers all_jobs starts graph files within alone are refusals u =
    let jobs : Jobs others =
    record { files = numbers; needs = all_jobs; starts = starts; is_graph = graph.is_graph } in
    told_there program files others alone graph.are_trees are within jobs refusals u
