-- What is asked for: one of the commands, with the texts of its values.
use Rattle.std.specs.Prelude.{ℕ, Bool, List, Option, codes, option_copied}
use Rattle.sq_commands.specs.declared.requests.EncodeWords.{EncodeWords}
use Rattle.sq_commands.specs.declared.requests.FeedWords.{FeedWords}
use Rattle.sq_commands.specs.declared.requests.ReplyRequest.{ReplyRequest}
use Rattle.sq_commands.specs.declared.requests.Request.{Request}
use Rattle.sq_commands.specs.declared.requests.TrackWords.{TrackWords}
use Rattle.sq_commands.specs.declared.requests.ReplyRequest.TheVariants as replies
use Rattle.sq_commands.specs.declared.requests.Request.TheVariants as variants

abbrev pub Text : Type 0
Text = List ℕ

-- the values of `encode`
pub record AskedEncode : Type 0 where
  pub kind : Text
  pub parity : Text
  pub address : Text
  pub feet : Option Text
  pub lat : Text
  pub lon : Text

-- the values of `track`
pub record AskedTrack : Type 0 where
  pub format : Option Text
  pub limit : Option Text
  pub window : Option Text
  pub lat : Option Text
  pub lon : Option Text

-- the values of `feed`
pub record AskedFeed : Type 0 where
  pub format : Option Text
  pub reorder : Option Text
  pub leap : Option Text
  pub arrival : Bool
  pub all : Bool

-- a command that reads no input, with its values
pub data AskedReply : Type 0 where
  Show : (frame : Text) → AskedReply
  Encode : AskedEncode → AskedReply
  Local : (frame lat lon : Text) → AskedReply
  Pair : (older newer : Text) (lat lon : Option Text) → AskedReply

-- a command and the texts of its values; an option that was not given is `None`
pub data Asked : Type 0 where
  Reply : AskedReply → Asked
  Check : (format : Option Text) → Asked
  Track : AskedTrack → Asked
  Feed : AskedFeed → Asked

-- the word that names the command
abbrev pub command_name : Asked → Text
command_name (Reply (Show frame)) = codes "show"
command_name (Reply (Encode e)) = codes "encode"
command_name (Reply (Local frame lat lon)) = codes "local"
command_name (Reply (Pair older newer lat lon)) = codes "pair"
command_name (Check format) = codes "check"
command_name (Track words) = codes "track"
command_name (Feed words) = codes "feed"

-- the values that a request of `encode` holds
abbrev pub asked_encode : EncodeWords → AskedEncode
asked_encode e = record {
  kind = e.kind.now;
  parity = e.parity.now;
  address = e.address.now;
  feet = option_copied e.feet;
  lat = e.lat.now;
  lon = e.lon.now;
}

-- the values that a request of `track` holds
abbrev pub asked_track : TrackWords → AskedTrack
asked_track words = record {
  format = option_copied words.format;
  limit = option_copied words.limit;
  window = option_copied words.window;
  lat = option_copied words.lat;
  lon = option_copied words.lon;
}

-- the values that a request of `feed` holds
abbrev pub asked_feed : FeedWords → AskedFeed
asked_feed words = record {
  format = option_copied words.format;
  reorder = option_copied words.reorder;
  leap = option_copied words.leap;
  arrival = words.arrival;
  all = words.all;
}

-- a request that reads no input, by the texts in it
abbrev pub asked_reply : ReplyRequest → AskedReply
asked_reply (replies.Show frame) = Show frame.now
asked_reply (replies.Encode e) = Encode (asked_encode e)
asked_reply (replies.Local frame lat lon) = Local frame.now lat.now lon.now
asked_reply (replies.Pair older newer lat lon) =
    Pair older.now newer.now (option_copied lat) (option_copied lon)

-- a request, by the texts in it
abbrev pub asked_by : Request → Asked
asked_by (variants.Reply request) = Reply (asked_reply request)
asked_by (variants.Check format) = Check (option_copied format)
asked_by (variants.Track words) = Track (asked_track words)
asked_by (variants.Feed words) = Feed (asked_feed words)
