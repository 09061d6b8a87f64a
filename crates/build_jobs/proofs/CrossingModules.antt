-- Which works of a build may cross threads.
use mathlib.Core.List.{[], ◌∷◌}
use denote.Builtin as builtin
use denote.Param.Send.{IsSend, IsSync, sendable, shr_sync, shr_slice_send, shr_slice_sync, struct_send, struct_sync, recorded_send, recorded_sync}
use denote.Ref.{NamedLft, ShrRef}
use denote.Struct.Declared as struct
use denote.Struct.Tuple.{Tuple}
use denote.Text.{Str}
use Rattle.std.proofs.Crossing.{Vec-sync}
use Rattle.std.proofs.alloc.Global.TheSendSync as heap
use Rattle.std.specs.contracts.alloc.Global
use Rattle.std.specs.contracts.impls.GlobalAllocator.TheImpl.{ghosts}
use Rattle.std.specs.contracts.vec.Vec
use Rattle.m2_tree.specs.contracts.decl.Module
use Rattle.build_jobs.proofs.Crossing.{Module-sync}
use Rattle.build_jobs.specs.contracts.modules.Modules

numbers_sync : IsSync (Vec.the_row builtin.usize Global.the_row ghosts)
numbers_sync = Vec-sync builtin.usize (search sendable)

module _ (a : NamedLft) where
  tree_sync : IsSync (Tuple (Str a.mir a.lft ∷ ShrRef a.mir a.lft Module.the_row ∷ []))
  tree_sync = let t : IsSync (ShrRef a.mir a.lft Module.the_row) = shr_sync a.mir a.lft Module.the_row Module-sync in
      search sendable depth 20

  number_sync : IsSync builtin.usize
  number_sync = search sendable

  pub Modules-send : IsSend (Modules.the_row a)
  Modules-send = recorded_send (Modules.the_field a).row _ _ (Modules.the_type a).to_one
      (struct_send (struct.shape (Modules.the_type a)) (
        heap.the_field_send,
        (
          shr_slice_send _ _ _ tree_sync,
          (shr_slice_send _ _ _ number_sync, (shr_slice_send _ _ _ numbers_sync, tt)),
        ),
      ))

  pub Modules-sync : IsSync (Modules.the_row a)
  Modules-sync = recorded_sync (Modules.the_field a).row _ _ (Modules.the_type a).to_one
      (struct_sync (struct.shape (Modules.the_type a)) (
        heap.the_field_sync,
        (
          shr_slice_sync _ _ _ tree_sync,
          (shr_slice_sync _ _ _ number_sync, (shr_slice_sync _ _ _ numbers_sync, tt)),
        ),
      ))

pub ruleset crosses = (Modules-send, Modules-sync)
