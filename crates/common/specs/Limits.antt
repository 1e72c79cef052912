-- The limits of the congress.
use Rattle.std.specs.Prelude.{ℕ, ℤ, pos}

-- a sheet has lines 0 to 31
abbrev pub line_count : ℕ
line_count = 32

-- a figure is from -20,000 to 20,000
abbrev pub largest_figure : ℕ
largest_figure = 20000

-- a slip carries at most 1,000, either way
abbrev pub largest_amount : ℤ
largest_amount = pos 1000

-- a house has 1 to 64 stations
abbrev pub most_stations : ℕ
most_stations = 64

-- tray and late list have 1 to 4,096 cells each
abbrev pub most_cells : ℕ
most_cells = 4096

-- a counting method waits for 0 to 8,192 arrivals: all slips of a full tray and a full late list
abbrev pub most_arrivals : ℕ
most_arrivals = 8192

-- it sends at most 1,000 control messages a call
abbrev pub most_messages : ℕ
most_messages = 1000

-- a station posts at most 1,000,000 slips
abbrev pub most_posts : ℕ
most_posts = 1000000

-- a deficit is from -30,000 to 30,000
abbrev pub largest_deficit : ℤ
largest_deficit = pos 30000
