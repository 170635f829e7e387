-- The command line, in clap's terms: its commands, each with its arguments and options, and their values.
use Rattle.std.specs.Prelude.{◌≡◌, Bool, List, None, Option, Some, codes, false, true}
use Rattle.std.specs.Str.{bytes_eq}
use Rattle.clap.specs.declared.builder.action.ArgAction.TheVariants.{SetTrue}
use Rattle.clap.specs.Words.{App, Row, Rule, Text, first_of, new_app, new_rule, with_rule, with_subcommand}
use Rattle.sq_commands.specs.Requests.{Asked, Reply, Show, Encode, Local, Pair, Check, Track, Feed}

-- a required argument or option
abbrev pub required : Rule → Rule
required r = record r { required = true }

-- a positional argument
abbrev pub argument : Text → Rule
argument name = required (new_rule name)

-- an option with one value, `--name VALUE` or `--name=VALUE`, with one name for the value in help; it may be left out
abbrev pub option : Text → Rule
option name = record (new_rule name) { long = Some name; value_names = 1 }

-- a required option with a value
abbrev pub required_option : Text → Rule
required_option name = required (option name)

-- an option without a value, `--name`
abbrev pub flag : Text → Rule
flag name = record (new_rule name) { long = Some name; action = Some SetTrue }

-- show FRAME
abbrev pub show : App
show = with_rule (new_app (codes "show")) (argument (codes "FRAME"))

-- encode --kind K --parity P --address A ..
abbrev pub encode_head : App
encode_head = with_rule (with_rule (with_rule (new_app (codes "encode")) (required_option (codes "kind")))
    (required_option (codes "parity"))) (required_option (codes "address"))

-- .. [--feet N] --lat LAT --lon LON
abbrev pub encode : App
encode = with_rule (with_rule (with_rule encode_head (option (codes "feet"))) (required_option (codes "lat")))
    (required_option (codes "lon"))

-- local FRAME --lat LAT --lon LON
abbrev pub local : App
local = with_rule (with_rule (with_rule (new_app (codes "local")) (argument (codes "FRAME")))
    (required_option (codes "lat"))) (required_option (codes "lon"))

-- pair OLDER NEWER [--lat LAT] [--lon LON]
abbrev pub pair : App
pair = with_rule (with_rule (with_rule (with_rule (new_app (codes "pair")) (argument (codes "OLDER")))
    (argument (codes "NEWER"))) (option (codes "lat"))) (option (codes "lon"))

-- check [--format FORMAT]
abbrev pub check : App
check = with_rule (new_app (codes "check")) (option (codes "format"))

-- track [--format FORMAT] [--limit N] [--window MS] [--lat LAT] [--lon LON]
abbrev pub track : App
track = with_rule (with_rule (with_rule (with_rule (with_rule (new_app (codes "track")) (option (codes "format")))
    (option (codes "limit"))) (option (codes "window")))
    (option (codes "lat"))) (option (codes "lon"))

-- feed [--format FORMAT] [--reorder MS] [--leap MS] [--arrival] [--all]
abbrev pub feed : App
feed = with_rule (with_rule (with_rule (with_rule (with_rule (new_app (codes "feed")) (option (codes "format")))
    (option (codes "reorder"))) (option (codes "leap"))) (flag (codes "arrival"))) (flag (codes "all"))

-- the program before any command is added; it requires a command, and has a version for `--version`
abbrev pub program : App
program = let named = new_app (codes "squitter") in
    record named { top = record named.top { has_version = true; subcommand_required = true } }

-- the program with one command
abbrev pub only : App → App
only command = with_subcommand program command.top

-- the program with its commands on one frame
abbrev pub frame_commands : App
frame_commands = with_subcommand (with_subcommand (with_subcommand program show.top) encode.top) local.top

-- the program with its commands on one or two frames, and on lines of frames
abbrev pub line_commands : App
line_commands = with_subcommand (with_subcommand frame_commands pair.top) check.top

-- the program with all its commands
abbrev pub squitter : App
squitter = with_subcommand (with_subcommand line_commands track.top) feed.top

-- ---- the values

-- the flag is given: clap then has the value `true` for it, and otherwise `false`
abbrev pub is_given : Option Text → Bool
is_given None = false
is_given (Some value) = bytes_eq value (codes "true")

-- clap has this value for each argument and option of the command
abbrev pub HasValues : List Row → Asked → Type 0
HasValues rows (Reply (Show frame)) = first_of (codes "FRAME") rows ≡ Some frame
HasValues rows (Reply (Encode e)) = (first_of (codes "kind") rows ≡ Some e.kind)
    × (first_of (codes "parity") rows ≡ Some e.parity)
    × (first_of (codes "address") rows ≡ Some e.address) × (first_of (codes "feet") rows ≡ e.feet)
    × (first_of (codes "lat") rows ≡ Some e.lat) × (first_of (codes "lon") rows ≡ Some e.lon)
HasValues rows (Reply (Local frame lat lon)) = (first_of (codes "FRAME") rows ≡ Some frame)
    × (first_of (codes "lat") rows ≡ Some lat) × (first_of (codes "lon") rows ≡ Some lon)
HasValues rows (Reply (Pair older newer lat lon)) =
    (first_of (codes "OLDER") rows ≡ Some older) × (first_of (codes "NEWER") rows ≡ Some newer)
    × (first_of (codes "lat") rows ≡ lat) × (first_of (codes "lon") rows ≡ lon)
HasValues rows (Check format) = first_of (codes "format") rows ≡ format
HasValues rows (Track words) =
    (first_of (codes "format") rows ≡ words.format) × (first_of (codes "limit") rows ≡ words.limit)
    × (first_of (codes "window") rows ≡ words.window) × (first_of (codes "lat") rows ≡ words.lat)
    × (first_of (codes "lon") rows ≡ words.lon)
HasValues rows (Feed words) =
    (first_of (codes "format") rows ≡ words.format) × (first_of (codes "reorder") rows ≡ words.reorder)
    × (first_of (codes "leap") rows ≡ words.leap) × (is_given (first_of (codes "arrival") rows) ≡ words.arrival)
    × (is_given (first_of (codes "all") rows) ≡ words.all)
