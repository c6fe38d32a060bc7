-- The dispatcher (document 02, item 6): `Dispatcher` has its lanes, tickets and order of serving, `Turns` whose turn it is and what
-- changes, `Calls` the calls with their refusals, `Lists` lists of calls and what is promised of them.
pub mod Dispatcher
pub mod Turns
pub mod Calls
pub mod Lists
