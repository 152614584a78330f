pub mod RewriteVisit
