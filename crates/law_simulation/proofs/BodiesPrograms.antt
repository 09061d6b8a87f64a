-- Each body of a typed program does what its statements do, and so does the program.
use Rattle.std.proofs.Common.{◌≡◌, ℕ, suc, ◌+◌, ◌-◌, ◌*◌, ◌≤◌, [], ◌∷◌, map, length, Some, refl, sym, ap, subst, arith}
use Rattle.std.specs.Prelude.{slice_get}
use Rattle.typed_tree.specs.declared.typed_module.TypedModule.{TypedModule}
use Rattle.layout_storage.specs.Types.{row}
use Rattle.layout_storage.specs.Sizes.{size}
use Rattle.layout_storage.specs.Frames.{module_row}
use Rattle.layout_storage.specs.Texts.{characters, module_texts}
use Rattle.def_meaning.specs.Answer.{State}
use Rattle.def_meaning.specs.Outcome.{Outcome}
use Rattle.def_meaning.specs.Runs.{data_size, storage, body_frame}
use Rattle.def_scheme.specs.Modules.{slots}
use Rattle.law_effect.specs.Effect.{Calling, nest_calls}
use Rattle.law_modules.specs.Linked.{Program, all, bytes_in}
use Rattle.law_simulation.specs.Bodies.{Ground, BodyDoes, AllDo, statements_do}
use Rattle.law_simulation.specs.RunsPrograms.{body_typed, bodies_at, fixtures_of, ground, module_type, BodiesDo}
use Rattle.law_simulation.proofs.Grounds.{top_is}
use Rattle.law_simulation.proofs.RunsPrograms.{program_behaves}
use Rattle.law_simulation.specs.BodiesPrograms.{serving, more_turns, IsTypedProgram, TypedPrograms}
use Rattle.law_simulation.proofs.TypedBodies.{typed_bodies}

data_is : (p : Program) → bytes_in p ≡ data_size p
data_is [] = refl
data_is (m ∷ ms) = ap (λ (n : ℕ). size (module_row m) + characters (module_texts m) + n) (data_is ms)

-- the bodies from a place on
all_from : (g : Ground) (calls : Calling) (does : ℕ → TypedModule → State → Outcome) (place global slot own : ℕ)
    (ms : Program) → own ≡ suc place
    → ((i : ℕ) (m : TypedModule) → slice_get ms i ≡ Some m
    → BodyDoes g calls (does (i + place) m) (suc (i + place)) 5 (body_typed m))
    → AllDo g calls does place ms (bodies_at global slot own ms)
all_from g calls does place global slot own [] e h = tt
all_from g calls does place global slot own (m ∷ ms) e h = (
  subst (λ (k : ℕ). BodyDoes g calls (does place m) k 5 (body_typed m)) (sym e)
      (subst (λ (k : ℕ). BodyDoes g calls (does k m) (suc k) 5 (body_typed m)) (none_on place) (h 0 m refl)),
  all_from g calls does (suc place) (global + 3) (slot + slots m) (own + 1) ms (omega (arith, e))
      (λ i o at. subst (λ (k : ℕ). BodyDoes g calls (does k o) (suc k) 5 (body_typed o)) (one_on i place)
      (h (suc i) o at)),
)
  where
    none_on : (j : ℕ) → 0 + j ≡ j
    none_on j = omega arith

    one_on : (i j : ℕ) → suc i + j ≡ i + suc j
    one_on i j = omega arith

module _ (p : Program) (pages : ℕ) (room : bytes_in p + body_frame ≤ 65536 * pages)
    (typed : (n : ℕ) → IsTypedProgram p pages n) where
  enough : size (row (ground p pages).base) + ((storage p pages - body_frame) + body_frame) ≡ 65536 * pages
  enough = let top = top_is p in let same = data_is p in omega (arith, top, same, room)

  count : length (ground p pages).base ≡ length p
  count = mapped p
    where
      mapped : (ms : Program) → length (map module_type ms) ≡ length ms
      mapped [] = refl
      mapped (m ∷ ms) = ap suc (mapped ms)

  bodies_do : BodiesDo p pages serving more_turns
  bodies_do n =
      let t = typed n in
      all_from (ground p pages) (nest_calls (all p pages) (fixtures_of p pages) serving more_turns n (suc n))
      (statements_do p pages n) 0 3 1 1 p refl
      (λ i m at.
      let same : i + 0 ≡ i = omega arith in
      subst (λ (k : ℕ). BodyDoes (ground p pages)
      (nest_calls (all p pages) (fixtures_of p pages) serving more_turns n (suc n)) (statements_do p pages n k m)
      (suc k) 5 (body_typed m)) (sym same)
      (typed_bodies (all p pages) (fixtures_of p pages) serving more_turns n (65536 * pages) p pages
      (ground p pages).base (ground p pages).texts count enough t.linked t.procedures i m (t.bodies i m at) refl
      refl))

pub typed_programs : TypedPrograms
typed_programs p pages linkable sound room typed =
    program_behaves p pages linkable sound serving more_turns refl (bodies_do p pages room typed)
