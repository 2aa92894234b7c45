-- Statuses and their phrases.
use Rattle.std.specs.Prelude.{ℕ, Bool, ◌==◌, List, codes, if◌then◌else◌}
use Rattle.desk_words.specs.declared.reply.Reply.{Reply}
use Rattle.desk_words.specs.declared.reply.Reply.TheVariants.{Kept, Given, Raw, Cert, OwnerIs, Report, BookIs, Placed, OrderIs, Withdrawn, NotOwner, NoSuch, Gone as GoneReply, Changed, NumberUsed, TextRefused, Found, Undecided, Limit, Refused, OrderFault, StoreFault, Full, Memory}
use Rattle.http_wire.specs.declared.refusal.Refusal.{Refusal}
use Rattle.http_wire.specs.declared.refusal.Refusal.TheVariants.{Malformed, LongBody, LongHead, Coded}
use Rattle.http_api.specs.declared.denied.Denied.{Denied}
use Rattle.http_api.specs.declared.denied.Denied.TheVariants.{NoPath, WrongMethod, BadCaller, BadBody}
use Rattle.http_api.specs.declared.status.Status.{Status}
use Rattle.http_api.specs.declared.status.Status.TheVariants.{Ok, Created, BadRequest, Forbidden, NotFound, MethodNotAllowed, Conflict, Gone, ContentTooLarge, UnprocessableContent, HeadTooLarge, InternalServerError, NotImplemented, ServiceUnavailable, InsufficientStorage}

abbrev pub code_of : Status → ℕ
code_of Ok = 200
code_of Created = 201
code_of BadRequest = 400
code_of Forbidden = 403
code_of NotFound = 404
code_of MethodNotAllowed = 405
code_of Conflict = 409
code_of Gone = 410
code_of ContentTooLarge = 413
code_of UnprocessableContent = 422
code_of HeadTooLarge = 431
code_of InternalServerError = 500
code_of NotImplemented = 501
code_of ServiceUnavailable = 503
code_of InsufficientStorage = 507

abbrev pub phrase_of : Status → List ℕ
phrase_of Ok = codes "OK"
phrase_of Created = codes "Created"
phrase_of BadRequest = codes "Bad Request"
phrase_of Forbidden = codes "Forbidden"
phrase_of NotFound = codes "Not Found"
phrase_of MethodNotAllowed = codes "Method Not Allowed"
phrase_of Conflict = codes "Conflict"
phrase_of Gone = codes "Gone"
phrase_of ContentTooLarge = codes "Content Too Large"
phrase_of UnprocessableContent = codes "Unprocessable Content"
phrase_of HeadTooLarge = codes "Request Header Fields Too Large"
phrase_of InternalServerError = codes "Internal Server Error"
phrase_of NotImplemented = codes "Not Implemented"
phrase_of ServiceUnavailable = codes "Service Unavailable"
phrase_of InsufficientStorage = codes "Insufficient Storage"

-- what the call made is Created, what was there is OK
abbrev pub new_status : Bool → Status
new_status is_new = if is_new then Created else Ok

abbrev pub status_of : Reply → Status
status_of (Kept draft revision) = new_status (revision == 1)
status_of (Given draft to) = Ok
status_of (Raw text) = Ok
status_of (Cert text) = Ok
status_of (OwnerIs owner revision) = Ok
status_of (Report text) = Ok
status_of (BookIs number fresh) = new_status fresh
status_of (Placed fresh text) = new_status fresh
status_of (OrderIs book day text) = Ok
status_of (Withdrawn book) = Ok
status_of (NotOwner owner) = Forbidden
status_of (NoSuch missing) = NotFound
status_of (GoneReply book) = Gone
status_of (Changed revision) = Conflict
status_of (NumberUsed book) = Conflict
status_of (TextRefused fault) = UnprocessableContent
status_of (Found text) = UnprocessableContent
status_of (Undecided text) = UnprocessableContent
status_of (Limit fault) = UnprocessableContent
status_of (Refused rule) = UnprocessableContent
status_of (OrderFault fault) = UnprocessableContent
status_of (StoreFault before after) = ServiceUnavailable
status_of (Full what) = InsufficientStorage
status_of Memory = InternalServerError

abbrev pub denied_status : Denied → Status
denied_status NoPath = NotFound
denied_status WrongMethod = MethodNotAllowed
denied_status BadCaller = BadRequest
denied_status BadBody = BadRequest

-- what stands in a stream and is no message
abbrev pub bad_status : Refusal → Status
bad_status Malformed = BadRequest
bad_status LongBody = ContentTooLarge
bad_status LongHead = HeadTooLarge
bad_status Coded = NotImplemented
