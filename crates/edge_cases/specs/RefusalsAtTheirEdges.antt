-- Every call at the edges of its questions: the last value that is granted, the first that is refused and its whole refusal;
-- and, where two neighbouring questions are both answered no, that the first is told.
use Rattle.edge_cases.specs.Edges.Make.{MakeEdges}
use Rattle.edge_cases.specs.Edges.Enter.{EnterEdges}
use Rattle.edge_cases.specs.Edges.Post.{PostEdges}
use Rattle.edge_cases.specs.Edges.Take.{TakeEdges}
use Rattle.edge_cases.specs.Edges.OpenTurn.{OpenEdges, TurnEdges}
use Rattle.edge_cases.specs.Edges.Gather.{GatherEdges}
use Rattle.edge_cases.specs.Edges.ReportClose.{ReportEdges, CloseEdges}
use Rattle.edge_cases.specs.Edges.File.{FileEdges}

pub record RefusalsAtTheirEdges : Type 0 where
  pub make : MakeEdges
  pub enter : EnterEdges
  pub post : PostEdges
  pub take : TakeEdges
  pub opens : OpenEdges
  pub turn : TurnEdges
  pub gather : GatherEdges
  pub report : ReportEdges
  pub close : CloseEdges
  pub file : FileEdges
