-- Every call: where it is granted it keeps tray and late list within their cells.
use Rattle.std.proofs.Common.{◌≡◌, ℕ, ◌<◌, Bool, true, false, cond, eqb, length, Some, None, Option, refl, arith}
use Rattle.std.proofs.lemmas.List.{length_push}
use Rattle.std.proofs.lemmas.Bool.{ltb-true}
use Rattle.sections.specs.Rule.{Rule}
use Rattle.methods.specs.Model.{Model}
use Rattle.house_rules.specs.declared.phase.Phase.{Phase}
use Rattle.house_rules.specs.declared.slip.ColouredSlip.{ColouredSlip}
use Rattle.house_rules.specs.Calls.EveryCall.{Call, house_questions, after, open', turn, gather, report, close, file, event}
use Rattle.house_rules.specs.State.Changes.{with_cells}
use Rattle.house_rules.specs.Calls.Gather.{gathered_cells, root_gathers, after_gather}
use Rattle.house_rules.specs.Calls.Post.{posted_slip}
use Rattle.house_rules.specs.State.House.{Cells, HouseState, station_at}
use Rattle.house_rules.specs.Calls.Take.{is_late, turns_receiver, take_questions, arrives, arrives_late, taken_cells, under_way}
use Rattle.house_rules.specs.Calls.Turn.{turns}
use Rattle.common.proofs.AllYes.{AllYes}
use Rattle.house_rules.proofs.Invariant.WholeHouse.{Room, length-less}
use Rattle.house_rules.specs.Calls.Event.{enter, post, take}

room_arrives : (cells : Cells) (x : ColouredSlip) → Room cells → Room (arrives cells x)
room_arrives cells x k = record { tray_cells_lem = k.tray_cells_lem; late_cells_lem = k.late_cells_lem; tray = let a = length-less x.slip.sender x.slip.number cells.tray in let b = k.tray in omega arith; late = k.late }

room_turns : (cells : Cells) (s : ℕ) → Room cells → Room (turns cells s)
room_turns cells s k = record { tray_cells_lem = k.tray_cells_lem; late_cells_lem = k.late_cells_lem; tray = k.tray; late = k.late }

room_taken : (rule : Rule) (p : Phase) (cells : Cells) (o : Option ColouredSlip) → AllYes (take_questions rule p cells o) → Room cells → Room (taken_cells p cells o)
room_taken rule p cells None y k = k
room_taken rule p cells (Some x) y k = go (is_late p cells x) refl (turns_receiver p cells x)
  where
    go : (b : Bool) → is_late p cells x ≡ b → (t : Bool) → Room (cond b (arrives_late cells x) (arrives (cond t (turns cells x.slip.receiver) cells) x))
    go true e t =
        let free : length cells.late < cells.late_cells = ltb-true (length cells.late) cells.late_cells (let z = y.0 in rw e at z) in
        record { tray_cells_lem = k.tray_cells_lem; late_cells_lem = k.late_cells_lem; tray = let a = length-less x.slip.sender x.slip.number cells.tray in let b = k.tray in omega arith; late = let a = length_push cells.late x in omega arith }
    go false e true = room_arrives (turns cells x.slip.receiver) x (room_turns cells x.slip.receiver k)
    go false e false = room_arrives cells x k

room_gather : (m : Model) (x : HouseState m.State) (s : ℕ) → Room x.cells → Room (after_gather m x s).cells
room_gather m x s k = go (eqb s 0)
  where
    go : (b : Bool) → Room (cond b (root_gathers m x s) (with_cells x (gathered_cells x.cells s))).cells
    go true = record { tray_cells_lem = k.tray_cells_lem; late_cells_lem = k.late_cells_lem; tray = k.tray; late = k.late }
    go false = record { tray_cells_lem = k.tray_cells_lem; late_cells_lem = k.late_cells_lem; tray = k.tray; late = k.late }

pub granted_room : (m : Model) (rule : Rule) (x : HouseState m.State) (call : Call) → AllYes (house_questions rule x.phase x.cells (m.rules.outstanding x.method) call) → Room x.cells → Room (after m rule x call).cells
granted_room m rule x (event (enter s a b r)) y k = record { tray_cells_lem = k.tray_cells_lem; late_cells_lem = k.late_cells_lem; tray = k.tray; late = k.late }
granted_room m rule x (event (post s to line amount)) y k =
    let free = ltb-true (length x.cells.tray) x.cells.tray_cells y.1.1.1.1.0 in
    record { tray_cells_lem = k.tray_cells_lem; late_cells_lem = k.late_cells_lem; tray = let a = length_push x.cells.tray (record { slip = posted_slip x.cells s to line amount; colour = (station_at x.cells s).colour }) in omega arith; late = k.late }
granted_room m rule x (event (take a b)) y k = room_taken rule x.phase x.cells (under_way x.cells a b) y k
granted_room m rule x (open' s) y k = record { tray_cells_lem = k.tray_cells_lem; late_cells_lem = k.late_cells_lem; tray = k.tray; late = omega arith }
granted_room m rule x (turn s) y k = room_turns x.cells s k
granted_room m rule x (gather s) y k = room_gather m x s k
granted_room m rule x (report s) y k = record { tray_cells_lem = k.tray_cells_lem; late_cells_lem = k.late_cells_lem; tray = k.tray; late = k.late }
granted_room m rule x close y k = k
granted_room m rule x (file late_on_receipt text) y k = k
