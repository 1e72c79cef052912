-- Make at the edges of its questions: 1, 2, 3 and 24.
use Rattle.std.specs.Prelude.{◌≡◌, ℕ}
use Rattle.methods.specs.Box.{box_model}
use Rattle.house_rules.specs.Calls.Make.{Handed}
use Rattle.house_rules.specs.Calls.EveryCall.{nothing}
use Rattle.house_rules.specs.Theorem.Histories.{make, Response, refused_with, granted, response_of}
use Rattle.edge_cases.specs.Houses.{box, handed_for}

-- n stations, sheets and record so long, two cells each
abbrev pub handed_sheets : (n sheets recorded : ℕ) → Handed
handed_sheets n sheets recorded = record { n = n; sheets = sheets; recorded = recorded; tray_cells = 2; late_cells = 2 }

-- three stations, and so many cells
abbrev pub handed_cells : (tray_cells late_cells : ℕ) → Handed
handed_cells tray_cells late_cells = record { n = 3; sheets = 3; recorded = 3; tray_cells = tray_cells; late_cells = late_cells }

-- what make says where so much is outstanding of the method handed in
abbrev pub MakeSays : Handed → (outstanding : ℕ) → Response → Type 0
MakeSays handed outstanding response = response_of (make box_model handed (box 3 outstanding)) ≡ response

abbrev pub MakeGrants : Handed → (outstanding : ℕ) → Type 0
MakeGrants handed outstanding = MakeSays handed outstanding (granted nothing)

abbrev pub MakeRefuses : Handed → (outstanding : ℕ) → (number : ℕ) → Type 0
MakeRefuses handed outstanding number = MakeSays handed outstanding (refused_with (number, 0, 0))

pub record MakeEdges : Type 0 where
  pub stations_0_is_number_1 : MakeRefuses (handed_for 0) 0 1
  pub stations_1_is_granted : MakeGrants (handed_for 1) 0
  pub stations_64_is_granted : MakeGrants (handed_for 64) 0
  pub stations_65_is_number_1 : MakeRefuses (handed_for 65) 0 1
  pub one_sheet_short_is_number_2 : MakeRefuses (handed_sheets 3 2 3) 0 2
  pub sheets_and_record_of_three_is_granted : MakeGrants (handed_sheets 3 3 3) 0
  pub one_sheet_more_is_number_2 : MakeRefuses (handed_sheets 3 4 3) 0 2
  pub record_one_short_is_number_2 : MakeRefuses (handed_sheets 3 3 2) 0 2
  pub record_one_more_is_number_2 : MakeRefuses (handed_sheets 3 3 4) 0 2
  pub no_tray_cell_is_number_3 : MakeRefuses (handed_cells 0 1) 0 3
  pub no_late_cell_is_number_3 : MakeRefuses (handed_cells 1 0) 0 3
  pub one_cell_each_is_granted : MakeGrants (handed_cells 1 1) 0
  pub cells_4096_each_is_granted : MakeGrants (handed_cells 4096 4096) 0
  pub tray_cells_4097_is_number_3 : MakeRefuses (handed_cells 4097 4096) 0 3
  pub late_cells_4097_is_number_3 : MakeRefuses (handed_cells 4096 4097) 0 3
  pub nothing_outstanding_is_granted : MakeGrants (handed_for 3) 0
  pub one_outstanding_is_number_24 : MakeRefuses (handed_for 3) 1 24
  -- two questions answered no: the first is told
  pub stations_before_sheets : MakeRefuses (handed_sheets 65 64 65) 0 1
  pub sheets_before_cells : MakeRefuses (record { n = 3; sheets = 2; recorded = 3; tray_cells = 0; late_cells = 2 }) 0 2
  pub cells_before_the_method : MakeRefuses (handed_cells 0 2) 1 3
